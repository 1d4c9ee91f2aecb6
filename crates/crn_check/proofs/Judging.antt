-- Tests in two parts: the first that fails, and all of them.
use Rattle.crn_check.proofs.Prelude.{◌≡◌, inl, inr, List, [], ◌∷◌, ◌++◌, Result, Ok, Err, sym, subst, Test, AllHold, FailsFirst, CheckFault, Judges}

-- a test of the first part fails
fails_before : (ts us : List Test) (f : CheckFault) → FailsFirst ts f.part f.code → FailsFirst (ts ++ us) f.part f.code
fails_before [] us f h = absurd h
fails_before (t ∷ ts) us f (inl here) = inl here
fails_before (t ∷ ts) us f (inr later) = inr (later.0, fails_before ts us f later.1)

pub judges_stop : (ts us : List Test) (r : Result Unit CheckFault) (f g : CheckFault) → r ≡ Err f → f ≡ g → FailsFirst ts g.part g.code → Judges (ts ++ us) r
judges_stop ts us r f g is same h =
    subst (Judges (ts ++ us)) (sym is) (fails_before ts us f (subst (λ (x : CheckFault). FailsFirst ts x.part x.code) (sym same) h))

-- all tests of the first part hold
pub judges_go : (ts us : List Test) (r : Result Unit CheckFault) → AllHold ts → Judges us r → Judges (ts ++ us) r
judges_go [] us r all h = h
judges_go (t ∷ ts) us (Ok done) all h = (all.0, judges_go ts us (Ok done) all.1 h)
judges_go (t ∷ ts) us (Err fault) all h = inr (all.0, judges_go ts us (Err fault) all.1 h)

-- the first test holds
pub judges_pass : (t : Test) (ts : List Test) (r : Result Unit CheckFault) → t.holds → Judges ts r → Judges (t ∷ ts) r
judges_pass t ts (Ok done) held h = (held, h)
judges_pass t ts (Err fault) held h = inr (held, h)
