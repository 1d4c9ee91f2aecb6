-- A proof without the spares of its lists, and its trees apart, since other records say them.
use Rattle.crn_ctext.proofs.Prelude.{◌≡◌, ◌∙◌, List, [], ◌∷◌, refl, sym, ap, Proof, Nothing, One, Two, Plan, tight_proof}

abbrev pub shown : Proof → Proof × List Plan
shown (One tree) = (Nothing, tree ∷ [])
shown (Two tree second) = (Nothing, tree ∷ second ∷ [])
shown p = (tight_proof p, [])

-- the proof with these trees, if it has any
together : Proof × List Plan → Proof
together (p, tree ∷ []) = One tree
together (p, tree ∷ second ∷ trees) = Two tree second
together (p, []) = p

together_shown : (p : Proof) → together (shown p) ≡ tight_proof p
unfolding together
together_shown (One tree) = refl
together_shown p = refl

pub shown_tight : (p r : Proof) → shown p ≡ shown r → tight_proof p ≡ tight_proof r
shown_tight p r e = sym (together_shown p) ∙ ap together e ∙ together_shown r
