use Rattle.crn_text.proofs.Prelude.{◌≡◌, ℕ, true, eqb, length, get_or, inl, inr, refl, sym, arith, not, cases_Bool, prefix_len_is}
use Rattle.crn_text.proofs.split.far_bytes_before.Goals as goal

misses : (byte b : ℕ) → (eqb b byte ≡ true → ⊥) → not (eqb b byte) ≡ true
misses byte b h = elim (cases_Bool (eqb b byte)) [ inl hit ↦ absurd (h hit) | inr miss ↦ rw miss refl ]

pub returns-in-Some : goal.returns-in-Some
returns-in-Some c =
    let found = c.in-Some.ensures in
    sym (prefix_len_is (λ b. not (eqb b c.args.byte)) c.args.text.now c.in-Some.place 0 (let lt = found.0.high in omega (arith, lt)) (λ k lt. misses c.args.byte (get_or c.args.text.now k 0) (found.0.before k (omega arith) lt)) (λ lt. rw found.1 refl))

pub returns-in-None : goal.returns-in-None
returns-in-None c = sym (prefix_len_is (λ b. not (eqb b c.args.byte)) c.args.text.now (length c.args.text.now) 0 (omega arith) (λ k lt. misses c.args.byte (get_or c.args.text.now k 0) (c.in-None.ensures k (omega arith) lt)) (λ lt. absurd (omega (arith, lt))))
