use Rattle.crn_vec.proofs.Prelude.{◌≡◌, ◌<◌, ◌+◌, ◌-◌, ◌∙◌, ℕ, inl, inr, length, get_or, ap, sym, subst, arith, pos, get_or-set_at, get_or-set_other, get_or-replicate, length-set, entry, IsSkip}
use Rattle.crn_vec.proofs.Entries.{lt_or}
use Rattle.crn_vec.proofs.skips.skips_of.Goals.{then-is_nought, else-is_nought}
use Rattle.crn_vec.proofs.skips.skips_of.Goals as goal

pub back-init : goal.back-init
back-init c =
    let v = c.args.vector.now in
    record {
      long = omega arith;
      inside = omega arith;
      each = λ k from to. subst (IsSkip v k) (sym (get_or-replicate 61 k (length v) 0 (omega (arith, to, c.requires)))) (record {
        after = to;
        inside = omega arith;
        zero = λ i le lt. absurd (omega (arith, from, le, lt));
      });
    }

pub back-preserved : goal.back-preserved
back-preserved c =
    let v = c.args.vector.now in
    let s = c.back.s in
    let skips = c.back.skips in
    let next = c.if-is_nought.skips in
    let h = c.back.invariant in
    let some : 0 < s = omega (arith, c.back-test.true) in
    let back : s - 1 + 1 ≡ s = omega (arith, some) in
    let inside : s - 1 < length skips = omega (arith, h.long, h.inside, c.requires) in
    let after = h.each s (omega arith) h.inside in
    let here : IsSkip v (s - 1) next = elim c.if-is_nought.branch as (λ _. IsSkip v (s - 1) next) [
      | then-is_nought w ↦
          let e : next ≡ get_or skips s 0 = w.skips-is ∙ ap (λ (k : ℕ). get_or skips k 0) back in
          subst (IsSkip v (s - 1)) (sym e) (record {
            after = omega (arith, after.after);
            inside = after.inside;
            zero = λ i le lt. elim (lt_or i s) as (λ _. entry v i ≡ pos 0) [
              | inl less ↦ let same : i ≡ s - 1 = omega (arith, le, less) in subst (λ (k : ℕ). entry v k ≡ pos 0) (sym same) (c.is_nought.ensures.0 w.if-is_nought.true)
              | inr more ↦ after.zero i more lt
            ];
          })
      | else-is_nought w ↦ subst (IsSkip v (s - 1)) (sym w.skips-is) (record {
        after = omega arith;
        inside = omega (arith, h.inside);
        zero = λ i le lt. absurd (omega (arith, le, lt));
      })
    ] in
    record {
      long = length-set skips (s - 1) next ∙ h.long;
      inside = omega (arith, h.inside);
      each = λ k from to. elim (lt_or k s) [
        | inl less ↦
            let e : k ≡ s - 1 = omega (arith, from, less) in
            subst (IsSkip v k) (sym (get_or-set_at skips (s - 1) k next 0 e inside)) (subst (λ (i : ℕ). IsSkip v i next) (sym e) here)
        | inr more ↦ subst (IsSkip v k) (sym (get_or-set_other skips (s - 1) k next 0 (λ e. absurd (omega (arith, e, more, some))))) (h.each k more to)
      ];
    }

pub returns : goal.returns
returns c =
    let h = c.back.invariant in
    record {
      long = omega (arith, h.long, c.requires);
      each = λ k le. h.each k (omega (arith, c.back-test.false)) le;
    }
