-- Tests that hold, one list after another.
use Rattle.crn_cert.proofs.Prelude.{List, [], ◌∷◌, ◌++◌, Test, AllHold}

pub hold_append : (ss ts : List Test) → AllHold ss → AllHold ts → AllHold (ss ++ ts)
hold_append [] ts h g = g
hold_append (s ∷ ss) ts h g = (h.0, hold_append ss ts h.1 g)

pub hold_parts : (ss ts : List Test) → AllHold (ss ++ ts) → AllHold ss × AllHold ts
hold_parts [] ts h = (tt, h)
hold_parts (s ∷ ss) ts h = let r = hold_parts ss ts h.1 in ((h.0, r.0), r.1)
