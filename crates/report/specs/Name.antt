-- What stands in the name column of a row.
use Rattle.std.specs.Prelude.{ℕ, if◌then◌else◌, ◌==◌}
use Rattle.report.specs.declared.page.Name.{Name}
use Rattle.report.specs.declared.page.Name.TheVariants.{Root, Function}

-- the root, whose function is 0, has a name of its own; any other row goes by its function
abbrev pub name_of : ℕ → Name
name_of function = if function == 0 then Root else Function function
