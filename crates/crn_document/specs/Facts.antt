-- The block of a question after facts, within the lines of a part: what it rests on, and what is known
-- after it.
-- Source: this project's own. Shapes: questions and lines count from 1.
use Rattle.std.specs.Prelude.{◌≡◌, ◌++◌, ℕ, false, List, [], ◌∷◌, map}
use Rattle.crn_vec.specs.Network.{Net, IsNetwork}
use Rattle.crn_cert.specs.Questions.{Earlier, Question}
use Rattle.crn_ctext.specs.Records.{Record}
use Rattle.crn_ctext.specs.Blocks.{AfterBlocks}
use Rattle.crn_ctext.specs.Meaning.{Known}
use Rattle.crn_check.specs.Check.{HoldsNeeds}
use Rattle.crn_check.specs.Facts.{KeptFacts, AreFactsOf, HoldsNoneFrom, HoldsOn, asked}

-- what the block of this question rests on is known: the verdicts at which it looks, and, but for the
-- first block, that on linkage classes; there is none on this or a later question
pub record IsKnownFor (net : Net) (question : ℕ) (facts : KeptFacts) : Type 0 where
  pub network : IsNetwork net
  pub facts_of : AreFactsOf net facts
  pub needs : HoldsNeeds facts.earlier question
  pub none : HoldsNoneFrom question facts.earlier
  pub first : (question ≡ 1 → ⊥) → HoldsOn facts.earlier 1

-- the questions of these verdicts, and this one
abbrev pub with_next : Earlier → (question : ℕ) → List Question
with_next earlier question = map (λ e. e.0) earlier ++ asked question ∷ []

-- after these verdicts and these blocks, at this line, which follows no tree
abbrev pub after_facts : Net → Earlier → (line : ℕ) → List (List Record) → AfterBlocks Known
after_facts net earlier line blocks = record {
  known = record { net = net; earlier = earlier };
  by_tree = false;
  line = line;
  blocks = blocks;
}

-- it is after these verdicts, at this line
abbrev pub IsAfterFacts : Net → Earlier → (line : ℕ) → AfterBlocks Known → Type 0
IsAfterFacts net earlier line y =
    (blocks : List (List Record)) × (y ≡ after_facts net earlier line blocks)
