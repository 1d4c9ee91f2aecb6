use Rattle.crn_document.proofs.Prelude.{◌≡◌, ◌+◌, [], ◌∷◌, ℕ, Bool, true, false, List, length, cond, ap, sym, subst, ◌∙◌, arith, filter, range_with_len, length-append, is_in_class}
use Rattle.crn_document.proofs.Linkages.{filter_step}
use Rattle.crn_document.proofs.linkage.count_members.Goals as goal
use Rattle.crn_document.proofs.linkage.count_members.Goals.{then-is_member, else-is_member}

pub loop-r-preserved : goal.loop-r-preserved
loop-r-preserved c =
    let net = c.args.net.now in
    let labels = c.args.labels.now in
    let k = c.args.class in
    let r = c.loop-r.r in
    let h = c.loop-r.invariant in
    let p : ℕ → Bool = λ j. is_in_class net labels k j in
    let last : (b : Bool) → p (r + 1) ≡ b → length (filter p ((r + 1) ∷ [])) ≡ length (cond b ((r + 1) ∷ []) []) = λ b e. ap (λ (a : Bool). length (cond a ((r + 1) ∷ []) [])) e in
    let more : length (filter p (range_with_len 1 (r + 1))) ≡ length (filter p (range_with_len 1 r)) + length (filter p ((r + 1) ∷ [])) =
    ap (λ (l : List ℕ). length l) (filter_step net labels k r) ∙ length-append (filter p (range_with_len 1 r)) (filter p ((r + 1) ∷ [])) in
    elim c.if-is_member.branch [
      | then-is_member w ↦ record {
        few = omega (arith, w.count-is, h.few);
        is = omega (arith, w.count-is, h.is, more, last true (sym c.is_member.ensures ∙ w.if-is_member.true));
      }
      | else-is_member w ↦ record {
        few = omega (arith, w.count-is, h.few);
        is = omega (arith, w.count-is, h.is, more, last false (sym c.is_member.ensures ∙ w.if-is_member.false));
      }
    ]

pub returns : goal.returns
returns c =
    let net = c.args.net.now in
    let labels = c.args.labels.now in
    let all : c.loop-r.r ≡ length net.reactions = omega (arith, c.loop-r-test.false, c.loop-r.auto.r-end, c.reactions-r-end.ensures.count) in
    subst (λ (n : ℕ). c.loop-r.count ≡ length (filter (λ r. is_in_class net labels c.args.class r) (range_with_len 1 n))) all c.loop-r.invariant.is
