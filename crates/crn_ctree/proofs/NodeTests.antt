-- The numbers of a cut, closed prefixes of tables, and shared vectors.
use Rattle.crn_ctree.proofs.Prelude.{◌≡◌, ◌+◌, Bool, true, List, length, map, sym, subst, ◌∙◌, arith, eq-eqb, eqb-true, ℤ, IsTrue, ◌==◌, ◌&&◌, ◌↔◌, Sign, Net, all_zero, and_cases, and_true, rows_count, AreFree, AreNumbersFor, Fits, Said, CutsA, CutsB, Result, Ok, Err, said_by, HasShape, NodeGives, SharedGives, IsShared, said_with, SharedCut, Node, Step, TreeFault, TreeEndsEarly, WrongShape, Signed, problem_of, InfluenceTable, Problem, Concordance, Signals, matrix_of, part_of, reaction_system, Shape, complex_row, pair_row, shelf_matrix, signals, length-append, length-map}
use Rattle.crn_ctree.specs.declared.shared.SharedCut.TheVariants.{A, B}
use Rattle.crn_ctree.specs.declared.fault.TreeFault.TheVariants.{BadLeaf, NodeNotAllowed}

-- multipliers of a cut are as many numbers of a certificate as its part has rows: of a table
pub free_a : (net : Net) (table : InfluenceTable) (u : List ℤ) → AreFree (length net.names) u → AreNumbersFor (problem_of net (Concordance table)) (CutsA u)
free_a net table u h = record { long = h.long ∙ sym (rows_count net); each = h.each }

-- of part B
pub free_b : (net : Net) (problem : Problem) (u : List ℤ) → AreFree (length net.names) u → AreNumbersFor (problem_of net problem) (CutsB u)
free_b net (Concordance table) u h = record { long = h.long ∙ sym (rows_count net); each = h.each }
free_b net (Signals shape) u h = record { long = h.long ∙ sym (rows_count net); each = h.each }

-- of part A of a shape
pub free_shape : (net : Net) (s : Shape) (u : List ℤ) → AreFree (length s.complexes + length s.pairs) u → AreNumbersFor (signals s (reaction_system net)) (CutsA u)
free_shape net s u h = record { long = h.long ∙ sym (shelf_rows s); each = h.each }
  where
    shelf_rows : (s : Shape) → length (shelf_matrix s).rows ≡ length s.complexes + length s.pairs
    shelf_rows s = omega (arith, length-append (map complex_row s.complexes) (map (pair_row s) s.pairs), length-map s.complexes complex_row, length-map s.pairs (pair_row s))

-- a test answers for the node at hand
pub by_node : (net : Net) (problem : Problem) (p : List Sign) (at node : Node) (b : Bool) → node ≡ at → (IsTrue b ↔ Fits (problem_of net problem) p (said_by at)) → IsTrue b ↔ Fits (problem_of net problem) p (said_by node)
by_node net problem p at node b e h = subst (λ (n : Node). IsTrue b ↔ Fits (problem_of net problem) p (said_by n)) (sym e) h

-- a prefix of a table is closed if it is full and of zeros only
pub flat_fits : (net : Net) (p : List Sign) (b : Bool) → (IsTrue b ↔ ((length p ≡ length net.names) × (all_zero p ≡ true))) → IsTrue b ↔ IsTrue ((length p == length (reaction_system net).rows) && all_zero p)
flat_fits net p b h =
    let rows = length (reaction_system net).rows in (
      λ t. and_true (length p == rows) (all_zero p) (eq-eqb (length p) rows ((h.0 t).0 ∙ sym (rows_count net))) (h.0 t).1,
      λ f. let both = and_cases (length p == rows) (all_zero p) f in h.1 (eqb-true (length p) rows both.0 ∙ rows_count net, both.1),
    )

-- ---- shared vectors

pub shape_long : (net : Net) (problem : Problem) (cut : SharedCut) (u : List ℤ) → HasShape (problem_of net problem) (said_with cut u) → length u ≡ length (matrix_of net problem (part_of cut)).rows
shape_long net problem (A place) u h = h
shape_long net problem (B place) u h = h

pub long_shape : (net : Net) (problem : Problem) (cut : SharedCut) (u : List ℤ) → length u ≡ length (matrix_of net problem (part_of cut)).rows → HasShape (problem_of net problem) (said_with cut u)
long_shape net problem (A place) u h = h
long_shape net problem (B place) u h = h

pub shared_numbers : (net : Net) (problem : Problem) (cut : SharedCut) (u : List ℤ) → IsShared u → length u ≡ length (matrix_of net problem (part_of cut)).rows → AreNumbersFor (problem_of net problem) (said_with cut u)
shared_numbers net problem (A place) u s h = record { long = h; each = s.narrow }
shared_numbers net problem (B place) u s h = record { long = h; each = s.narrow }

pub shared_from : (w : Signed) (due : List (List Sign)) (said : Said) (after : List (List Sign)) (r : Result Step TreeFault) → HasShape w said → NodeGives w due said after r → SharedGives w due said after r
shared_from w due said after (Ok step) h g = (h, g)
shared_from w due said after (Err BadLeaf) h g = (h, g)
shared_from w due said after (Err NodeNotAllowed) h g = (h, g)
shared_from w due said after (Err TreeEndsEarly) h g = absurd g
shared_from w due said after (Err WrongShape) h g = absurd g
