-- For the contracts of private functions alone.
-- Kinds and weights of the coordinates of a part.
-- Source: this project's own.
use Rattle.std.specs.List.{range_with_len}
use Rattle.std.specs.Prelude.{◌||◌, ℤ, neg_ℤ, Bool, if◌then◌else◌, List, ◌++◌, length, map, drop}
use Rattle.crn_vec.specs.declared.signs.Sign.{Sign}
use Rattle.crn_vec.specs.declared.signs.Kind.{Kind}
use Rattle.crn_vec.specs.declared.signs.Kind.TheVariants.{Pos, Neg, NonNeg, Zero, Free}
use Rattle.crn_vec.specs.Network.{Net}
use Rattle.crn_vec.specs.Vectors.{Mat, column, dot}
use Rattle.crn_vec.specs.Problems.{all_zero}
use Rattle.crn_vec.specs.Concordance.{kind_of_sum, some_sign, is_plus, is_minus, products}
use Rattle.crn_cert.specs.Nodes.{Said, CutsA, CutsB}
use Rattle.crn_ctree.specs.Problem.{problem_of}
use Rattle.crn_ctree.specs.declared.problem.Problem.{Problem}
use Rattle.crn_vec.specs.NetSystems.{reaction_system}
use Rattle.crn_vec.specs.Signals.{shelf_matrix}
use Rattle.crn_ctree.specs.declared.cut.System.{System}
use Rattle.crn_ctree.specs.declared.cut.System.TheVariants.{Reactions, Shelves}
use Rattle.crn_ctree.specs.declared.cut.Part.{Part}
use Rattle.crn_ctree.specs.declared.cut.Part.TheVariants.{A, B}
use Rattle.crn_ctree.specs.declared.shared.SharedCut.{SharedCut}
use Rattle.crn_ctree.specs.declared.shared.SharedCut.TheVariants.{A as SharedA, B as SharedB}

-- the kind of a reaction's column, if species before these have raised or lowered it
abbrev pub column_from : Bool → Bool → List Sign → List Sign → Kind
column_from raised lowered signs p =
    if all_zero (drop (length p) signs)
    then kind_of_sum (raised || some_sign is_plus (products signs p))
    (lowered || some_sign is_minus (products signs p))
    else Free

-- the kind of the negative of a number of this kind, which is not at least 0
abbrev pub opposite_kind : Kind → Kind
opposite_kind Pos = Neg
opposite_kind Neg = Pos
opposite_kind NonNeg = NonNeg
opposite_kind Zero = Zero
opposite_kind Free = Free

-- the matrix of a system: of the reaction vectors, or system 5 of a shape
abbrev pub matrix_by : Net → System → Mat
matrix_by net Reactions = reaction_system net
matrix_by net (Shelves shape) = shelf_matrix shape.now

-- the matrix of a part
abbrev pub matrix_of : Net → Problem → Part → Mat
matrix_of net problem A = (problem_of net problem).matrix_a
matrix_of net problem B = (problem_of net problem).matrix_b

-- the kinds of a part at a prefix
abbrev pub kinds_of : Net → Problem → Part → List Sign → List Kind
kinds_of net problem A p = (problem_of net problem).kinds_a p
kinds_of net problem B p = (problem_of net problem).kinds_b p

-- the list (-uA, u) of a matrix A
abbrev pub weights_of : Mat → List ℤ → List ℤ
weights_of a u = map (λ j. neg_ℤ (dot u (column a.rows j))) (range_with_len 0 a.cols) ++ u

-- the part that a cut with a shared vector rules out
abbrev pub part_of : SharedCut → Part
part_of (SharedA place) = A
part_of (SharedB place) = B

-- the cut of a part with these multipliers
abbrev pub cut_by : Part → List ℤ → Said
cut_by A u = CutsA u
cut_by B u = CutsB u
