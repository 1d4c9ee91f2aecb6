-- Members of filtered ranges, and tests of which one holds.
use Rattle.crn_cert.proofs.Prelude.{◌≡◌, ℕ, ◌+◌, ◌<◌, ◌≤◌, ◌⊎◌, inl, inr, Bool, true, false, refl, ◌||◌, range_with_len, list_any, any_some, range_bounds}

-- a number of the range passes the test
pub some_place : (test : ℕ → Bool) (a n : ℕ) → list_any test (range_with_len a n) ≡ true → (c : ℕ) × (a ≤ c) × (c < a + n) × (test c ≡ true)
some_place test a n e =
    let r = any_some test (range_with_len a n) e in
    let b = range_bounds r.0 a n r.1 in
    (r.0, b.0, b.1, r.2)

pub or_either : (a b : Bool) → (a || b) ≡ true → (a ≡ true) ⊎ (b ≡ true)
or_either true b e = inl refl
or_either false b e = inr e
