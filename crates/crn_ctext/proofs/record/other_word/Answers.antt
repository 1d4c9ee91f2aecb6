use Rattle.crn_ctext.proofs.Prelude.{◌≡◌, true, false, sym, ap, subst, ◌∙◌, misplaced, is_after, IsRefusedBy, fault_number}
use Rattle.crn_ctext.proofs.LineSought.{refused_unknown, refused_tree, refused_misplaced, no_node}
use Rattle.crn_ctext.proofs.record.other_word.Goals as goal

pub returns-then-not-is_known : goal.returns-then-not-is_known
returns-then-not-is_known c = refused_unknown c.args.expect.now c.args.line.now c.first_word-word.result.now c.requires.due c.first_word-word.ensures
    (λ i. let t = c.is_known.ensures.1 i in let f = c.if-not-is_known.true in cc)

pub returns-in-Node : goal.returns-in-Node
returns-in-Node c =
    let e = c.args.expect.now in
    let out : is_after e.due e.after_tree ≡ false = ap (λ d. is_after d e.after_tree) c.in-Node.is in
    subst (IsRefusedBy e c.args.line.now) (ap (λ d. fault_number (misplaced d)) c.in-Node.is) (refused_misplaced e c.args.line.now c.first_word-word.result.now c.requires.due c.first_word-word.ensures
    (c.is_known.ensures.0 c.if-not-is_known.false) (λ up i. absurd (let f : true ≡ false = sym up ∙ out in cc)) c.requires.tried)

pub returns-then-is_known : goal.returns-then-is_known
returns-then-is_known c =
    let e = c.args.expect.now in
    let n = no_node e.due c.in_default.not-Node in
    refused_tree e c.args.line.now c.first_word-word.result.now c.requires.due c.first_word-word.ensures (c.is_known.ensures.0 c.if-not-is_known.false) (n.1 e.after_tree ∙ c.if-expect.true) (c.is_known-then-expect.ensures.0 c.if-is_known.true)

pub returns-else-is_known : goal.returns-else-is_known
returns-else-is_known c =
    let e = c.args.expect.now in
    let n = no_node e.due c.in_default.not-Node in
    subst (IsRefusedBy e c.args.line.now) (ap fault_number n.0) (refused_misplaced e c.args.line.now c.first_word-word.result.now c.requires.due c.first_word-word.ensures
    (c.is_known.ensures.0 c.if-not-is_known.false) (λ up i. let t = c.is_known-then-expect.ensures.1 i in let f = c.if-is_known.false in cc) c.requires.tried)

pub returns-else-expect : goal.returns-else-expect
returns-else-expect c =
    let e = c.args.expect.now in
    let n = no_node e.due c.in_default.not-Node in
    subst (IsRefusedBy e c.args.line.now) (ap fault_number n.0) (refused_misplaced e c.args.line.now c.first_word-word.result.now c.requires.due c.first_word-word.ensures
    (c.is_known.ensures.0 c.if-not-is_known.false) (λ up i. absurd (let f : true ≡ false = sym up ∙ n.1 e.after_tree ∙ c.if-expect.false in cc)) c.requires.tried)
