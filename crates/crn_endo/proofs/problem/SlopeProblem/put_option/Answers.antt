use Rattle.crn_endo.proofs.Prelude.{◌≡◌, ◌<◌, ◌+◌, ℕ, List, ◌∷◌, ◌++◌, [], length, get_or, sym, ap, subst, ◌∙◌, arith, Sign, Plus, is_plus, kind_of_sign, Net, Bits, word_count, at_least_zero_if, others, slope_width, AskFirmly, firm_kind}
use Rattle.crn_endo.proofs.ChainLaws.{other_inside}
use Rattle.crn_endo.proofs.Steps.{option_plus, option_still}
use Rattle.crn_endo.proofs.problem.SlopeProblem.put_option.Goals as goal

-- the option is required, in a network that is this one
abbrev Requires : ℕ → ℕ → Sign → List Bits → List Bits → Net → Type 0
Requires r i o old new net = (p : List Sign) → length p ≡ i → AskFirmly net r (Plus ∷ p) old → AskFirmly net r (Plus ∷ (p ++ o ∷ [])) new

pub index-c-requires : goal.index-c-requires
index-c-requires c =
    let s = c.args.self.now in
    omega (arith, c.requires.inside, ap (λ (l : List ℕ). length l) s.further_is, ap (λ (n : Net). length (others n s.given.now.reaction)) s.net_is)

pub put_asked-requires : goal.put_asked-requires
put_asked-requires c =
    let s = c.args.self.now in
    let t = s.given.now in
    omega (arith, c.requires.inside, c.requires.count, ap word_count s.matrix_is, slope_width t.net t.reaction, c.species-species.ensures.count, c.reactions-reactions.ensures.count, ap (λ (n : Net). length n.names) s.net_is, ap (λ (n : Net). length n.reactions) s.net_is)

pub put_rises-requires-clause-complex : goal.put_rises-requires-clause-complex
put_rises-requires-clause-complex c =
    let s = c.args.self.now in
    let r = s.given.now.reaction in
    let net = s.net.now in
    let i = c.args.i in
    let complex = c.index-c.result.now in
    let inside : i < length (others net r) = subst (λ (n : Net). i < length (others n r)) s.net_is c.requires.inside in
    let is : complex ≡ get_or (others net r) i complex = c.index-c.ensures ∙ ap (λ (l : List ℕ). get_or l i complex) s.further_is in
    omega (arith, is, other_inside net r i complex inside)

pub returns-in-Plus : goal.returns-in-Plus
returns-in-Plus c =
    let s = c.args.self.now in
    let r = s.given.now.reaction in
    let net = s.net.now in
    let i = c.args.i in
    let old = c.args.words.now in
    let new = c.put_rises.new.words in
    let h = c.species-species.result + c.reactions-reactions.result + c.reactions-reactions.result + i in
    let complex = c.index-c.result.now in
    let inside : i < length (others net r) = subst (λ (n : Net). i < length (others n r)) s.net_is c.requires.inside in
    let is : complex ≡ get_or (others net r) i complex = c.index-c.ensures ∙ ap (λ (l : List ℕ). get_or l i complex) s.further_is in
    subst (Requires r i c.args.option old new) (sym s.net_is) (λ p long given.
    let lt : length p < length (others net r) = omega (arith, long, inside) in
    subst (λ (o : Sign). AskFirmly net r (Plus ∷ (p ++ o ∷ [])) new) (sym c.in-Plus.is)
    (option_plus net r p complex h c.asked_of_sign.result old c.put_asked.new.words new lt (is ∙ ap (λ (j : ℕ). get_or (others net r) j complex) (sym long))
    (omega (arith, long, c.species-species.ensures.count, c.reactions-reactions.ensures.count)) (c.asked_of_sign.ensures ∙ ap kind_of_sign c.in-Plus.is) c.put_asked.ensures c.put_rises.ensures given))

pub returns-in-Zero : goal.returns-in-Zero
returns-in-Zero c =
    let s = c.args.self.now in
    let r = s.given.now.reaction in
    let net = s.net.now in
    let i = c.args.i in
    let old = c.args.words.now in
    let new = c.put_asked.new.words in
    let h = c.species-species.result + c.reactions-reactions.result + c.reactions-reactions.result + i in
    let inside : i < length (others net r) = subst (λ (n : Net). i < length (others n r)) s.net_is c.requires.inside in
    subst (Requires r i c.args.option old new) (sym s.net_is) (λ p long given.
    option_still net r c.args.option p h c.asked_of_sign.result old new (ap (λ (o : Sign). firm_kind (at_least_zero_if (is_plus o))) c.in-Zero.is) (omega (arith, long, inside))
    (omega (arith, long, c.species-species.ensures.count, c.reactions-reactions.ensures.count)) c.asked_of_sign.ensures c.put_asked.ensures given)

pub returns-in-Minus : goal.returns-in-Minus
returns-in-Minus c =
    let s = c.args.self.now in
    let r = s.given.now.reaction in
    let net = s.net.now in
    let i = c.args.i in
    let old = c.args.words.now in
    let new = c.put_asked.new.words in
    let h = c.species-species.result + c.reactions-reactions.result + c.reactions-reactions.result + i in
    let inside : i < length (others net r) = subst (λ (n : Net). i < length (others n r)) s.net_is c.requires.inside in
    subst (Requires r i c.args.option old new) (sym s.net_is) (λ p long given.
    option_still net r c.args.option p h c.asked_of_sign.result old new (ap (λ (o : Sign). firm_kind (at_least_zero_if (is_plus o))) c.in-Minus.is) (omega (arith, long, inside))
    (omega (arith, long, c.species-species.ensures.count, c.reactions-reactions.ensures.count)) c.asked_of_sign.ensures c.put_asked.ensures given)
