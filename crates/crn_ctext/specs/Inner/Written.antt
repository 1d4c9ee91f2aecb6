-- For the contracts of private functions alone.
-- How a document is written piece by piece.
-- Source: this project's own. Shapes: questions are numbered from 1. `leaf` has for each cut leaf
-- that is still to be written the number of its list, or 0; beyond its end each is 0.
use Rattle.std.specs.Prelude.{◌≡◌, ℕ, ℤ, ◌-◌, ◌^◌, Some, None, Bool, true, false, if◌then◌else◌, List, [], ◌∷◌, ◌++◌, length, map, take, drop, codes, slice_index_or, Result, OnOk, OnErr}
use Rattle.std.specs.List.{flat_map}
use Rattle.crn_io.specs.Device.{SinkSeen}
use Rattle.crn_io.specs.Write.{WroteAll, WrotePrefix}
use Rattle.crn_vec.specs.Network.{Net}
use Rattle.crn_cert.specs.Questions.{Question, Q1, questions}
use Rattle.crn_cert.specs.declared.answer.Verdict.TheVariants.{Strong}
use Rattle.crn_shape.specs.Pairs.{pairs_to}
use Rattle.crn_cert.specs.declared.answer.Verdict.{Verdict}
use Rattle.crn_cert.specs.declared.answer.Gap.{Gap}
use Rattle.crn_cert.specs.declared.answer.Answer.{Answer}
use Rattle.crn_cert.specs.Preorder.{Listed, ListedSplitTwo, ListedSplitThree, ListedCutA, ListedCutB, ListedFlat}
use Rattle.crn_ctext.specs.Records.{Record}
use Rattle.crn_ctext.specs.Questions.{Shapes, opens}
use Rattle.crn_ctext.specs.Answers.{head_of, open_head, records, small_record}
use Rattle.crn_ctext.specs.Documents.{is_cut_leaf, later_leaves, one_word, section}

-- words, each after a space
abbrev pub words_text : List (List ℕ) → List ℕ
words_text words = flat_map (λ word. 32 ∷ word) words

-- the question of a number
abbrev pub question_at : ℕ → Question
question_at k = slice_index_or questions (k - 1) Q1

-- the words of a verdict's head after that of its question
abbrev pub head_words : Verdict → List (List ℕ)
head_words verdict = drop 1 (head_of Q1 verdict).words

-- the numbers of a verdict's head
abbrev pub head_numbers : Verdict → List ℤ
head_numbers verdict = (head_of Q1 verdict).numbers

-- the words of an open answer's head after that of its question
abbrev pub gap_words : Gap → List (List ℕ)
gap_words gap = drop 1 (open_head Q1 gap).words

-- the numbers of an open answer's head
abbrev pub gap_numbers : Gap → List ℤ
gap_numbers gap = (open_head Q1 gap).numbers

-- shapes with these linked pairs, and nothing else
abbrev pub shapes_with : List ℕ → Shapes
shapes_with pairs = record {
  sizes = record {
    species = 0;
    complexes = 0;
    reactions = 0;
    classes = 0;
    terminal = 0;
    pairs = 0;
    class_reactions = λ k. 0;
    vector = false;
  };
  class_complexes = [];
  class_members = [];
  pair_reactions = pairs;
}

-- the record of a node
abbrev pub node_record : Listed → Record
node_record ListedSplitTwo = one_word (codes "split") []
node_record ListedSplitThree = one_word (codes "split") []
node_record (ListedCutA u) = one_word (codes "cuta") u
node_record (ListedCutB u) = one_word (codes "cutb") u
node_record ListedFlat = one_word (codes "flat") []

-- the numbers of the leaves after these records
abbrev pub leaves_after : List Record → List ℕ → List ℕ
leaves_after [] leaf = leaf
leaves_after (r ∷ rs) leaf =
    if is_cut_leaf r then leaves_after rs (later_leaves leaf) else leaves_after rs leaf

-- the lines that open sections before a question's block, if there are sections
abbrev pub headings : Bool → Question → List Record
headings true q = map section (opens q)
headings false q = []

-- the records of an answer with these linked pairs, after the line that opens its section
abbrev pub block : Bool → List ℕ → Question → Answer → List Record
block sections pairs q a = headings sections q ++ records q (shapes_with pairs) a

-- the blocks of answers to these questions
abbrev pub blocks : Bool → List ℕ → List Question → List Answer → List Record
blocks sections pairs (q ∷ qs) (a ∷ more) =
    block sections pairs q a ++ blocks sections pairs qs more
blocks sections pairs [] answers = []
blocks sections pairs (q ∷ qs) [] = []

-- the linked pairs within terminal classes, each by its least reaction, by a verdict on strong
-- classes
abbrev pub strong_pairs : Net → Verdict → List ℕ
strong_pairs net (Strong count terminal label exit) =
    pairs_to net label.list exit.list (length net.reactions)
strong_pairs net verdict = []

-- the same, by the verdict of the second answer
abbrev pub pairs_in : Net → List Answer → List ℕ
pairs_in net (a ∷ b ∷ more) = strong_pairs net b.verdict
pairs_in net answers = []

-- the least reaction of pair i, counted from 0, or nothing if there is none
abbrev pub pair_at : List ℕ → ℕ → List ℕ
pair_at pairs i = take 1 (drop i pairs)

-- the records of the trees that show strong classes
abbrev pub strong_records : (from from_depth to to_depth level : List ℕ) → List Record
strong_records from from_depth to to_depth level =
    small_record (codes "from") from ∷ small_record (codes "fromdepth") from_depth
    ∷ small_record (codes "to") to ∷ small_record (codes "todepth") to_depth
    ∷ small_record (codes "level") level ∷ []

-- what contracts see of a sink that counts bytes: room for as many more as a count below 2^64 takes
abbrev pub counter_seen : ℕ → ℕ → SinkSeen
counter_seen count faults = record {
  took = None;
  room = Some (2 ^ 64 - 1 - count);
  faults = faults;
}

-- of this text all was written but for what is held
pub record Gathered (text held : List ℕ) (old new : SinkSeen) : Type 0 where
  pub written : List ℕ
  pub parts : text ≡ written ++ held
  pub wrote : WroteAll written old new

-- what a call that gathers a text did, by its answer
pub record Gathers {T E : Type 0} (text held : List ℕ) (old new : SinkSeen) (result : Result T E) : Type 0 where
  pub all : OnOk result (Gathered text held old new)
  pub prefix : OnErr result (WrotePrefix text old new)
