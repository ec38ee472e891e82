-- What function and parent of a row say of its context. Assumes nothing.
use Rattle.std.proofs.Common.{◌≡◌, ℕ, ◌<◌, true, List, [], ◌∷◌, length, get_or, sym, ap, ◌∙◌, subst, ⊎_elim, arith}
use Rattle.std.proofs.lemmas.Bool.{cases_eq}
use Rattle.metrics.specs.Measures.{Measure, Laws}
use Rattle.metrics.specs.Joins.{joins}
use Rattle.model.specs.Positions.{Path, Position, at, same}
use Rattle.model.specs.Summaries.{any_of}
use Rattle.rows.specs.declared.row.Shape.{Shape}
use Rattle.rows.specs.Shapes.{blank}
use Rattle.rows.specs.Sound.{Table}
use Rattle.rows.specs.Reading.{context, listed}
use Rattle.rows.proofs.Sounds.{top_one, level_low, roots_rise}
use Rattle.rows.proofs.Readings.{context_root, context_child, contexts_apart, depth_is, any_at, any_is}
use Rattle.rows.proofs.Flats.{first_root}
use Rattle.rows.proofs.Listed.{joins_own}

module _ (s : List Shape) (n top : ℕ) (t : Table s n top) where
  -- a row with the empty path
  pub root_row : (k : ℕ) → k < n → (context s k).path ≡ [] → ((get_or s k blank).function ≡ 0) × ((get_or s k blank).parent ≡ k)
  root_row k h e =
      let z = top_one s n top t k h (sym (depth_is s k) ∙ ap length e) in
      (z, ((t.good k h).root z).parent)

  -- any other row has a function
  pub named_row : (k : ℕ) → k < n → ((context s k).path ≡ [] → ⊥) → 0 < (get_or s k blank).function
  named_row k h ne = ⊎_elim
      (λ (z : (get_or s k blank).function ≡ 0). absurd (ne (ap (λ (x : Position). x.path) (context_root s n top t k h z))))
      (λ (z : (get_or s k blank).function ≡ 0 → ⊥). omega arith)
      (cases_eq (get_or s k blank).function 0)

  -- and comes after its parent
  pub child_row : (k : ℕ) → k < n → 0 < (get_or s k blank).function → ((get_or s k blank).parent < k) × (context s k ≡ at (context s (get_or s k blank).parent).level ((get_or s k blank).function ∷ (context s (get_or s k blank).parent).path))
  child_row k h f = (((t.good k h).child f).parent, context_child s n top t k h f)

-- ---- trees: one level
module _ (s : List Shape) (n : ℕ) (t : Table s n 0) where
  pub flat_row : (k : ℕ) → k < n → context s k ≡ at 0 (context s k).path
  flat_row k h = let l : (get_or s k blank).level ≡ 0 = omega (arith, level_low s n 0 t k h) in ap (λ l. at l (context s k).path) l

  pub only_root : (k : ℕ) → k < n → (get_or s k blank).function ≡ 0 → k ≡ 0
  only_root k h z = ⊎_elim
      (λ (e : k ≡ 0). e)
      (λ (e : k ≡ 0 → ⊥). absurd (omega (arith, ((t.good k h).root z).level, level_low s n 0 t k h, roots_rise s k 0 (omega arith) (first_root s n 0 t))))
      (cases_eq k 0)

  pub paths_apart : (j k : ℕ) → j < n → k < n → (context s j).path ≡ (context s k).path → j ≡ k
  paths_apart j k hj hk e = contexts_apart s n 0 t j k hj hk (flat_row j hj ∙ ap (at 0) e ∙ sym (flat_row k hk))

  module _ {M : Type 0} (none : M) (v : List M) where
    pub path_there : (k : ℕ) → k < n → any_of (same (at 0 (context s k).path)) (listed none s v n) ≡ true
    path_there k h = subst (λ x. any_of (same x) (listed none s v n) ≡ true) (flat_row k h) (any_at none s v n k h)

    pub path_of : (q : Path) → any_of (same (at 0 q)) (listed none s v n) ≡ true → (k : ℕ) × (k < n) × ((context s k).path ≡ q)
    path_of q e = let k = any_is none s v n (at 0 q) e in (k.0, k.1, sym (ap (λ (x : Position). x.path) k.2))

  pub path_value : {M : Type 0} {m : Measure M} → Laws m → (v : List M) (k : ℕ) → k < n → joins m (same (at 0 (context s k).path)) (listed m.none s v n) ≡ get_or v k m.none
  path_value {M} {m} laws v k h = subst (λ x. joins m (same x) (listed m.none s v n) ≡ get_or v k m.none) (flat_row k h) (joins_own laws s v n 0 t k n h (omega arith))
