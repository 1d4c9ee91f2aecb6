-- The verdict of a formed answer fits in the memory that is reserved for it.
use Rattle.crn_check.proofs.Prelude.{◌≤◌, inl, inr, ℕ, length, arith, Net, IsNetwork, Answer, Wide, Rests, Verdict, Classes, Strong, Rank, Deficiency, YesVec, YesSignal, NoVec, NoCycle, NoPair, Plane, Unknown, Q1, Q2, Q5, Q6, Q7, Q8, Q11, Q12, Q13, Q14, Q15, IsFormed, IsFormedVerdict, formed_answers_have_formed_verdicts, KeptFacts, AreFactsOf, asked, AsksForTree, IsBuilt, HoldsNeeds, shown_by_tree, DoesFit, Question, number}
use Rattle.crn_check.proofs.Forms.{linkage_labelled, strong_few}
use Rattle.crn_check.proofs.Asked.{by_number}

-- by the question and the verdict: a list of deficiencies has a member for each linkage class, and a signal a shelf for each terminal class
fits : (net : Net) (facts : KeptFacts) (q : Question) (v : Verdict) → IsNetwork net → AreFactsOf net facts → HoldsNeeds facts.earlier (number q) → IsFormedVerdict net facts.earlier q v → DoesFit v
fits net facts Q1 (Classes count label) n h needs f = omega (arith, f.1.long, n.partial.complexes_limit)
fits net facts Q2 (Strong count terminal label exit) n h needs f = (omega (arith, f.1.0.long, n.partial.complexes_limit), omega (arith, f.1.1.long, f.0.0.0.1, n.partial.complexes_limit))
fits net facts Q5 (Rank rank base) n h needs f = omega (arith, f.1.long, f.0.0.1, n.partial.reactions_limit)
fits net facts Q5 (Unknown (Wide system class index basis)) n h needs f = omega (arith, f.0.0.2.members.long, n.partial.species_limit)
fits net facts Q6 (Deficiency total classes) n h needs f = omega (arith, f.0.0.1.long, (linkage_labelled net facts h needs.0).1, n.partial.complexes_limit)
fits net facts Q6 (Unknown (Wide system class index basis)) n h needs f = omega (arith, f.0.0.2.members.long, n.partial.species_limit)
fits net facts Q7 (YesVec vector) n h needs f = omega (arith, f.1.long, n.partial.reactions_limit)
fits net facts Q7 (NoVec multipliers) n h needs f = omega (arith, f.1.long, n.partial.species_limit)
fits net facts Q7 (Unknown (Wide system class index basis)) n h needs f = omega (arith, f.0.0.2.members.long, n.partial.reactions_limit)
fits net facts Q8 (YesVec vector) n h needs f = omega (arith, f.1.long, n.partial.species_limit)
fits net facts Q8 (NoVec multipliers) n h needs f = omega (arith, f.1.long, n.partial.reactions_limit)
fits net facts Q8 (Unknown (Wide system class index basis)) n h needs f = omega (arith, f.0.0.2.members.long, n.partial.species_limit)
fits net facts Q11 (NoCycle reaction walk) n h needs f = omega (arith, f.1.few, n.partial.complexes_limit)
fits net facts Q12 (YesVec vector) n h needs f = omega (arith, f.1.long, n.partial.complexes_limit)
fits net facts Q12 (Plane first second one two) n h needs f = (omega (arith, f.1.0.long, n.partial.complexes_limit), omega (arith, f.1.1.long, n.partial.complexes_limit))
fits net facts Q12 (Unknown (Wide system class index basis)) n h needs f = omega (arith, f.0.0.2.members.long, n.partial.complexes_limit)
fits net facts Q13 (YesSignal turn shelves mu level weights) n h needs f = (
  omega (arith, f.1.shelves_are.long, strong_few net facts h needs.0, n.partial.complexes_limit),
  omega (arith, f.1.mu_is.long, n.partial.species_limit),
  omega (arith, f.1.weights_are.long, n.partial.reactions_limit),
)
fits net facts Q13 (Unknown (Wide system class index basis)) n h needs f = elim f.0.0 as (λ _. length basis.list ≤ 240) [
  | inl h ↦ omega (arith, h.2.members.long, n.partial.reactions_limit)
  | inr h ↦ omega (arith, h.3.members.long, n.partial.species_limit)
]
fits net facts Q14 (NoPair alpha weights) n h needs f = (omega (arith, f.1.0.long, n.partial.reactions_limit), omega (arith, f.1.1.long, n.partial.reactions_limit))
fits net facts Q14 (Unknown (Wide system class index basis)) n h needs f = omega (arith, f.0.0.2.members.long, n.partial.reactions_limit)
fits net facts Q15 (NoPair alpha weights) n h needs f = (omega (arith, f.1.0.long, n.partial.reactions_limit), omega (arith, f.1.1.long, n.partial.reactions_limit))
fits net facts Q15 (Unknown (Wide system class index basis)) n h needs f = omega (arith, f.0.0.2.members.long, n.partial.reactions_limit)
fits net facts q (Unknown (Rests question)) n h needs f = tt
fits net facts q v n h needs f = let may = f.0 in search (tt, may)

pub answer_fits : (net : Net) (facts : KeptFacts) (n : ℕ) (a : Answer) → IsNetwork net → IsBuilt n → AreFactsOf net facts → HoldsNeeds facts.earlier n → IsFormed net facts.earlier (asked n) a → DoesFit a.verdict
answer_fits net facts n a network built h needs formed =
    fits net facts (asked n) a.verdict network h (by_number (HoldsNeeds facts.earlier) n built needs) (formed_answers_have_formed_verdicts net facts.earlier (asked n) a.verdict a.proof formed)

-- the verdict that trees show fits
pub shown_fits : (n : ℕ) → AsksForTree n → DoesFit (shown_by_tree (asked n))
shown_fits n (inl is) = rw is tt
shown_fits n (inr (inl is)) = rw is tt
shown_fits n (inr (inr is)) = rw is tt
