-- The answer on the Deficiency Zero Theorem is one of the crate of deficiencies, or rests on the rank; what the answer on the Deficiency One Theorem rests on.
use Rattle.crn_solve.proofs.Prelude.{◌≡◌, ◌↔◌, ◌∙◌, ℕ, ap, sym, subst, IsTrue, Bool, Net, IsWeaklyReversible, weak_yes, weak_no, open_tight, yes_tight, Verdict, Earlier, Q4, Q5, Q9, IsOpen, IsYes, on, IsTrueOf, IsAnswer, tight, zero_rests, plain, Rests, Unknown}

-- a true verdict on weak reversibility is a yes if and only if the network is weakly reversible
pub weak_is : (net : Net) (v : Verdict) (weak : Bool) → IsTrueOf net Q4 v → (IsTrue weak ↔ IsYes v) → (IsTrue weak ↔ IsWeaklyReversible net.reactions)
weak_is net v weak h is = ((λ w. weak_yes net v h (is.0 w)), (λ w. is.1 (weak_no net v h w)))

-- an open rank leaves the Deficiency Zero Theorem open
pub zero_rests_given : (net : Net) (budget : ℕ) (earlier : Earlier) (v : Verdict) → IsOpen v → on earlier Q5 ≡ tight v → IsAnswer net budget earlier Q9 (plain (Unknown (Rests 5)))
zero_rests_given net budget earlier v o is = zero_rests net budget earlier (subst IsOpen (sym is) (subst (λ (A : Type 0). A) (sym (open_tight v)) o))

-- so is the one that is known
pub weak_known : (earlier : Earlier) (v : Verdict) (weak : Bool) → on earlier Q4 ≡ tight v → (IsTrue weak ↔ IsYes v) → (IsTrue weak ↔ IsYes (on earlier Q4))
weak_known earlier v weak four is = subst (λ (A : Type 0). IsTrue weak ↔ A) (sym (yes_tight v) ∙ ap IsYes (sym four)) is
