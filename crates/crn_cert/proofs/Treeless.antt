-- Formed answers to questions 1 to 12 have no trees, and trees that are few enough for one bound are so for a greater one.
use Rattle.crn_cert.proofs.Prelude.{◌≡◌, ◌≤◌, ℕ, List, [], ◌∷◌, subst, arith, AllZip, Net, TreeRow, trees, FitsTree, head_of, IsFormedOf, HeadKind, Earlier, Question, HasFewNodes, HaveFewNodes, Verdict, Proof, Answer}
use Rattle.crn_cert.specs.Blocks.{trees_of}
use Rattle.crn_cert.specs.declared.answer.Proof.TheVariants as proof

-- the proof has no trees
abbrev pub IsTreeless : Proof → Type 0
IsTreeless (proof.One tree) = ⊥
IsTreeless (proof.Two tree second) = ⊥
IsTreeless p = Unit {0}

-- ---- formed answers

no_trees : (p : Proof) → AllZip FitsTree [] (trees_of p) → IsTreeless p
no_trees (proof.One tree) f = absurd f
no_trees (proof.Two tree second) f = absurd f
no_trees p f = tt

-- if no tree follows a head of the question, no formed answer has one
pub treeless : (net : Net) (earlier : Earlier) (q : Question) (v : Verdict) (p : Proof) → ((kind : HeadKind) → trees net earlier q kind ≡ []) → IsFormedOf net earlier q v p → IsTreeless p
treeless net earlier q v p none f = no_trees p (subst (λ (ts : List TreeRow). AllZip FitsTree ts (trees_of p)) (none (head_of v).0) f.0.trees)

-- ---- few nodes

-- a proof without trees has none that is too large
pub treeless_few : (most : ℕ) (p : Proof) → IsTreeless p → HasFewNodes most p
treeless_few most (proof.One tree) h = absurd h
treeless_few most (proof.Two tree second) h = absurd h
treeless_few most p h = tt

-- what is few for one bound is few for a greater one
has_more : (most limit : ℕ) (p : Proof) → most ≤ limit → HasFewNodes most p → HasFewNodes limit p
has_more most limit (proof.One tree) le h = omega (arith, le, h)
has_more most limit (proof.Two tree second) le h = (omega (arith, le, h.0), omega (arith, le, h.1))
has_more most limit p le h = tt

pub have_more : (most limit : ℕ) (answers : List Answer) → most ≤ limit → HaveFewNodes most answers → HaveFewNodes limit answers
have_more most limit [] le h = tt
have_more most limit (a ∷ answers) le h = (has_more most limit a.proof le h.0, have_more most limit answers le h.1)
