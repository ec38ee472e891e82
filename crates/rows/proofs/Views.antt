-- A part of a row that the code reads or writes, in the list of that part. Assumes nothing.
use Rattle.std.proofs.Common.{◌≡◌, ℕ, ◌<◌, ◌≤◌, List, map, length, get_or, set, sym, ap, ◌∙◌, ⊎_elim, length-set}
use lib.Seq.{set-get_or}
use Rattle.std.proofs.lemmas.List.{get_or-map, map-set, length-map}
use Rattle.rows.specs.declared.row.Row.{Row}
use Rattle.rows.specs.Cells.{values, marks, heads, links}
use Rattle.std.proofs.lemmas.Bool.{cases_lt, cond-true, cond-false, lt-ltb, le-ltb}
use Rattle.rows.specs.Shapes.{Shape, shapes, child}
use Rattle.rows.specs.Steps.{grown}

-- ---- any part
module _ {M X : Type 0} (part : Row M → X) (rows : List (Row M)) (i : ℕ) where
  read_part : (d : Row M) (x : X) → i < length rows → get_or (map part rows) i x ≡ part (get_or rows i d)
  read_part d x h = get_or-map part rows i d x h

  wrote_part : (r : Row M) → map part (set rows i r) ≡ set (map part rows) i (part r)
  wrote_part r = map-set part rows i r

  -- a write that leaves the part
  kept_part : (r d : Row M) → i < length rows → part r ≡ part (get_or rows i d) → map part (set rows i r) ≡ map part rows
  kept_part r d h e = wrote_part r ∙ ap (set (map part rows) i) (e ∙ sym (read_part d (part d) h)) ∙ set-get_or (map part rows) i (part d)

-- ---- each part: as the row i is read, and as a write of it leaves the list
module _ {M : Type 0} (rows : List (Row M)) (i : ℕ) where
  pub read_head : (d : Row M) → i < length rows → (get_or rows i d).head ≡ get_or (heads rows) i 0
  read_head d h = sym (read_part (λ r. r.head) rows i d 0 h)

  pub wrote_shape : (r : Row M) → shapes (set rows i r) ≡ set (shapes rows) i r.shape
  wrote_shape r = wrote_part (λ r. r.shape) rows i r

  pub wrote_mark : (r : Row M) → marks (set rows i r) ≡ set (marks rows) i r.mark
  wrote_mark r = wrote_part (λ r. r.mark) rows i r

  pub wrote_head : (r : Row M) → heads (set rows i r) ≡ set (heads rows) i r.head
  wrote_head r = wrote_part (λ r. r.head) rows i r

  pub wrote_link : (r : Row M) → links (set rows i r) ≡ set (links rows) i r.next
  wrote_link r = wrote_part (λ r. r.next) rows i r

  pub kept_shapes : (r d : Row M) → i < length rows → r.shape ≡ (get_or rows i d).shape → shapes (set rows i r) ≡ shapes rows
  kept_shapes r d h e = kept_part (λ r. r.shape) rows i r d h e

  pub kept_marks : (r d : Row M) → i < length rows → r.mark ≡ (get_or rows i d).mark → marks (set rows i r) ≡ marks rows
  kept_marks r d h e = kept_part (λ r. r.mark) rows i r d h e

  pub kept_heads : (r d : Row M) → i < length rows → r.head ≡ (get_or rows i d).head → heads (set rows i r) ≡ heads rows
  kept_heads r d h e = kept_part (λ r. r.head) rows i r d h e

  pub kept_links : (r d : Row M) → i < length rows → r.next ≡ (get_or rows i d).next → links (set rows i r) ≡ links rows
  kept_links r d h e = kept_part (λ r. r.next) rows i r d h e

  module _ {V : Type 0} (means : M → V) where
    pub read_value : (d : Row M) (none : V) → i < length rows → means (get_or rows i d).value ≡ get_or (values means rows) i none
    read_value d none h = sym (read_part (λ r. means r.value) rows i d none h)

    pub wrote_value : (r : Row M) → values means (set rows i r) ≡ set (values means rows) i (means r.value)
    wrote_value r = wrote_part (λ r. means r.value) rows i r

    pub kept_values : (r d : Row M) → i < length rows → means r.value ≡ means (get_or rows i d).value → values means (set rows i r) ≡ values means rows
    kept_values r d h e = kept_part (λ r. means r.value) rows i r d h e

-- ---- lengths
pub long : {M : Type 0} (rows : List (Row M)) → length (shapes rows) ≡ length rows
long rows = length-map rows (λ (r : Row _). r.shape)

-- where the shapes are as many, so are the rows
pub as_long : {M : Type 0} (rows rows' : List (Row M)) → length (shapes rows') ≡ length (shapes rows) → length rows' ≡ length rows
as_long rows rows' e = sym (long rows') ∙ e ∙ long rows

pub long_grown : (s : List Shape) (n up f c : ℕ) → length (grown s n up f c) ≡ length s
long_grown s n up f c = ⊎_elim
    (λ (l : c < n). ap length (cond-true _ _ _ (lt-ltb c n l)))
    (λ (l : n ≤ c). ap length (cond-false _ _ _ (le-ltb c n l)) ∙ length-set s n (child s up f))
    (cases_lt c n)

pub long_values : {M V : Type 0} (means : M → V) (rows : List (Row M)) → length (values means rows) ≡ length (shapes rows)
long_values means rows = length-map rows (λ (r : Row _). means r.value) ∙ sym (long rows)

pub long_marks : {M : Type 0} (rows : List (Row M)) → length (marks rows) ≡ length rows
long_marks rows = length-map rows (λ (r : Row _). r.mark)

pub long_heads : {M : Type 0} (rows : List (Row M)) → length (heads rows) ≡ length rows
long_heads rows = length-map rows (λ (r : Row _). r.head)

pub long_links : {M : Type 0} (rows : List (Row M)) → length (links rows) ≡ length rows
long_links rows = length-map rows (λ (r : Row _). r.next)
