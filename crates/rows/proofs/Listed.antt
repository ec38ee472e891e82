-- The rows of a table as a list of contexts, each once, and the value at the context of a row. Assumes nothing.
use Rattle.std.proofs.Common.{◌≡◌, ℕ, zero, suc, ◌<◌, ◌≤◌, true, false, ◌||◌, List, [], length, get_or, sym, refl, ap, ◌∙◌, subst, ⊎_elim, arith}
use Rattle.std.proofs.lemmas.Bool.{cases_Bool, cases_eq, and_from, not_from_false, cond-true, cond-false}
use Rattle.model.specs.Positions.{Position, same}
use Rattle.model.specs.Summaries.{any_of}
use Rattle.model.specs.Limits.{among, apart}
use Rattle.model.proofs.Moves.{same_refl, same_true}
use Rattle.model.proofs.Totals.{unit_right}
use Rattle.metrics.specs.Measures.{Measure, Laws}
use Rattle.metrics.specs.Joins.{joins}
use Rattle.rows.specs.Shapes.{Shape}
use Rattle.rows.specs.Sound.{Table}
use Rattle.rows.specs.Reading.{context, contexts, listed}
use Rattle.rows.proofs.Readings.{contexts_apart, any_is}

pub among_listed : {M : Type 0} (none : M) (s : List Shape) (v : List M) (n : ℕ) (x : Position) → among (contexts s n) x ≡ any_of (same x) (listed none s v n)
among_listed none s v zero x = refl
among_listed none s v (suc n) x = ap (λ b. same x (context s n) || b) (among_listed none s v n x)

pub contexts_long : (s : List Shape) (n : ℕ) → length (contexts s n) ≡ n
contexts_long s zero = refl
contexts_long s (suc n) = ap suc (contexts_long s n)

pub contexts_once : (s : List Shape) (n top : ℕ) → Table s n top → (k : ℕ) → k ≤ n → apart (contexts s k) ≡ true
contexts_once s n top t zero h = refl
contexts_once s n top t (suc k) h = and_from _ _ (not_from_false _ absent) (contexts_once s n top t k (omega arith))
  where
    absent : among (contexts s k) (context s k) ≡ false
    absent = ⊎_elim
        (λ e.
        let j = any_is {M = ℕ} 0 s [] k (context s k) (sym (among_listed {M = ℕ} 0 s [] k (context s k)) ∙ e) in
        let same_row : k ≡ j.0 = contexts_apart s n top t k j.0 (omega arith) (omega (arith, j.1)) j.2 in
        absurd (omega (arith, j.1)))
        (λ e. e)
        (cases_Bool (among (contexts s k) (context s k)))

module _ {M : Type 0} {m : Measure M} (laws : Laws m) (s : List Shape) (v : List M) (n top : ℕ) (t : Table s n top) where
  other : (j k : ℕ) → j < n → k < n → (j ≡ k → ⊥) → same (context s j) (context s k) ≡ false
  other j k hj hk ne = ⊎_elim
      (λ e. absurd (ne (contexts_apart s n top t j k hj hk (same_true (context s j) (context s k) e))))
      (λ e. e)
      (cases_Bool (same (context s j) (context s k)))

  -- the rows before k have another context
  joins_before : (k i : ℕ) → k < n → i ≤ k → joins m (same (context s k)) (listed m.none s v i) ≡ m.none
  joins_before k zero hk h = refl
  joins_before k (suc i) hk h = cond-false _ _ _ (other k i hk (omega arith) (λ (e : k ≡ i). omega arith)) ∙ joins_before k i hk (omega arith)

  -- the value at a row's context is the row's own
  pub joins_own : (k i : ℕ) → k < i → i ≤ n → joins m (same (context s k)) (listed m.none s v i) ≡ get_or v k m.none
  joins_own k zero hk h = absurd (omega arith)
  joins_own k (suc i) hk h = ⊎_elim
      (λ (e : k ≡ i).
      cond-true _ _ _ (subst (λ j. same (context s k) (context s j) ≡ true) e (same_refl (context s k)))
      ∙ ap (m.join (get_or v i m.none)) (joins_before k i (omega arith) (omega arith))
      ∙ unit_right laws (get_or v i m.none) ∙ ap (λ j. get_or v j m.none) (sym e))
      (λ (ne : k ≡ i → ⊥). cond-false _ _ _ (other k i (omega arith) (omega arith) ne) ∙ joins_own k i (omega arith) (omega arith))
      (cases_eq k i)
