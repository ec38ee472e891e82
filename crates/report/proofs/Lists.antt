-- A list that grows by one.
use Rattle.std.proofs.Common.{◌≡◌, ℕ, ◌+◌, ◌<◌, List, get_or, sym, subst, below_more}

-- what holds of each element holds of each after a push, if it holds of what is pushed
pub pushed_each : {X : Type 0} (P : ℕ → X → Type 0) (d x : X) (xs ys : List X) (len n : ℕ) → n ≡ len + 1 → ((k : ℕ) → k < len → P k (get_or xs k d)) → ((k : ℕ) (e : X) → k < len → get_or ys k e ≡ get_or xs k e) → get_or ys len d ≡ x → P len x → (k : ℕ) → k < n → P k (get_or ys k d)
pushed_each {X} P d x xs ys len n e each kept last now =
    subst (λ m. (k : ℕ) → k < m → P k (get_or ys k d)) (sym e)
    (below_more (λ k. P k (get_or ys k d)) len (λ k h. subst (P k) (sym (kept k d h)) (each k h)) (subst (P len) (sym last) now))
