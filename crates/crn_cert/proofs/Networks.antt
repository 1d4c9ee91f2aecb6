-- Small networks that are worked by hand.
use Rattle.crn_cert.proofs.Prelude.{pos, Net}
use Rattle.std.specs.Prelude.{[], ◌∷◌}

-- A <-> B
abbrev pub both_ways : Net
both_ways = record {
  names = (65 ∷ []) ∷ (66 ∷ []) ∷ [];
  complexes = (pos 1 ∷ pos 0 ∷ []) ∷ (pos 0 ∷ pos 1 ∷ []) ∷ [];
  reactions = (0, 1) ∷ (1, 0) ∷ [];
}

-- A -> 2A, A -> 0: two terminal classes in one linkage class
abbrev pub branching : Net
branching = record {
  names = (65 ∷ []) ∷ [];
  complexes = (pos 1 ∷ []) ∷ (pos 2 ∷ []) ∷ (pos 0 ∷ []) ∷ [];
  reactions = (0, 1) ∷ (0, 2) ∷ [];
}

-- 2A <-> A + B <-> 2B
abbrev pub chain : Net
chain = record {
  names = (65 ∷ []) ∷ (66 ∷ []) ∷ [];
  complexes = (pos 2 ∷ pos 0 ∷ []) ∷ (pos 1 ∷ pos 1 ∷ []) ∷ (pos 0 ∷ pos 2 ∷ []) ∷ [];
  reactions = (0, 1) ∷ (1, 0) ∷ (1, 2) ∷ (2, 1) ∷ [];
}

-- Edelstein's network: A <-> 2A, A + B <-> C <-> B
abbrev pub edelstein : Net
edelstein = record {
  names = (65 ∷ []) ∷ (66 ∷ []) ∷ (67 ∷ []) ∷ [];
  complexes = (pos 1 ∷ pos 0 ∷ pos 0 ∷ []) ∷ (pos 2 ∷ pos 0 ∷ pos 0 ∷ []) ∷ (pos 1 ∷ pos 1 ∷ pos 0 ∷ []) ∷ (pos 0 ∷ pos 0 ∷ pos 1 ∷ []) ∷ (pos 0 ∷ pos 1 ∷ pos 0 ∷ []) ∷ [];
  reactions = (0, 1) ∷ (1, 0) ∷ (2, 3) ∷ (3, 2) ∷ (3, 4) ∷ (4, 3) ∷ [];
}

-- A + E -> B + E, B -> A: the enzyme is in the plain table and zero in the strong one
abbrev pub enzyme : Net
enzyme = record {
  names = (65 ∷ []) ∷ (69 ∷ []) ∷ (66 ∷ []) ∷ [];
  complexes = (pos 1 ∷ pos 1 ∷ pos 0 ∷ []) ∷ (pos 0 ∷ pos 1 ∷ pos 1 ∷ []) ∷ (pos 0 ∷ pos 0 ∷ pos 1 ∷ []) ∷ (pos 1 ∷ pos 0 ∷ pos 0 ∷ []) ∷ [];
  reactions = (0, 1) ∷ (2, 3) ∷ [];
}
