-- What holds of every summary in its table. Assumes nothing.
use Rattle.std.proofs.Common.{◌≡◌, ℕ, suc, ◌<◌, ◌≤◌, true, List, ◌∷◌, length, get_or, drop, sym, ap, ◌∙◌, subst, ⊎_elim, arith}
use Rattle.std.proofs.lemmas.Bool.{cases_eq, or_right}
use Rattle.model.specs.Positions.{Position, at, same}
use Rattle.metrics.specs.Measures.{Measure}
use Rattle.model.specs.Summaries.{any_of, rooted}
use Rattle.rows.specs.declared.row.Shape.{Shape}
use Rattle.rows.specs.Shapes.{blank}
use Rattle.rows.specs.Sound.{Sound}
use Rattle.rows.specs.Reading.{context, contexts, listed}
use Rattle.profile.specs.Given.{Complete}
use Rattle.rows.proofs.Sounds.{up_one}
use Rattle.rows.proofs.Readings.{context_child, depth_is, any_at, any_is, any_rooted}
use Rattle.profile.proofs.Giving.{held}
use Rattle.rows.proofs.Listed.{among_listed, contexts_long, contexts_once}

pub complete : {M : Type 0} (m : Measure M) (s : List Shape) (v : List M) (n top cur room : ℕ) → Sound s n top cur → n ≤ room → Complete (held m s v n cur room)
complete m s v n top cur room o fits = record {
  rows = contexts s n;
  once = contexts_once s n top o.table n (omega arith);
  each = among_listed m.none s v n;
  many = contexts_long s n;
  fits = fits;
  prefixed = record {
    shorter = λ l f q h.
        let k = any_is m.none s v n (at l (f ∷ q)) h in
        let d : suc (length q) ≡ (get_or s k.0 blank).depth = ap (λ (x : Position). length x.path) k.2 ∙ depth_is s k.0 in
        let p = up_one s n top o.table k.0 k.1 (omega arith) in
        let named : 0 < (get_or s k.0 blank).function = ⊎_elim
        (λ (z : (get_or s k.0 blank).function ≡ 0). absurd (omega (arith, ((o.table.good k.0 k.1).root z).depth)))
        (λ (z : (get_or s k.0 blank).function ≡ 0 → ⊥). omega arith)
        (cases_eq (get_or s k.0 blank).function 0) in
        let is : at l q ≡ context s (get_or s k.0 blank).parent = ap (λ (x : Position). at x.level (drop 1 x.path)) (k.2 ∙ context_child s n top o.table k.0 k.1 named) in
        subst (λ x. any_of (same x) (listed m.none s v n) ≡ true) (sym is) (any_at m.none s v n (get_or s k.0 blank).parent (omega (arith, p.parent, k.1)));
    opened = any_at m.none s v n cur o.opened;
  };
  rooted = λ x h. any_rooted m.none s v n top o.table x ∙ or_right (any_of (same x) (listed m.none s v n)) _ (subst (λ l. rooted l x ≡ true) o.here h);
  shallow = λ x h. let k = any_is m.none s v n x h in omega (arith, (o.table.good k.0 k.1).depth, depth_is s k.0, ap (λ (z : Position). length z.path) k.2);
}
