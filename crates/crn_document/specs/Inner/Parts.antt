-- For the contracts of private functions alone. The linkage classes that are known before a block,
-- and the ranks that the records below a head prove.
-- Source: this project's own format. Shapes: classes and reactions count from 1. Class 0 stands for
-- the network.
use Rattle.std.specs.Prelude.{◌≡◌, ◌≤◌, ◌-◌, ◌==◌, ℕ, zero, suc, ℤ, nat_abs, nat_lt, Bool, true, List, [], ◌∷◌, length, map, filter, drop, slice_index, slice_index_or}
use Rattle.std.specs.List.{range_with_len}
use Rattle.crn_vec.specs.Network.{Net, IsNetwork}
use Rattle.crn_vec.specs.Deficiency.{class_members}
use Rattle.crn_vec.specs.declared.limits.TheConstants.{MAX_COMPLEXES}
use Rattle.crn_cert.specs.Built.{built}
use Rattle.crn_cert.specs.declared.head_kind.HeadKind.{HeadKind}
use Rattle.crn_cert.specs.declared.head_kind.HeadKind.TheVariants.{Rank, Deficiency}
use Rattle.crn_cert.specs.Questions.{Earlier, Question, number as number_of}
use Rattle.crn_cert.specs.Valid.{linkage, linkage_count}
use Rattle.crn_ctext.specs.Questions.{first_number, later_numbers}
use Rattle.crn_check.specs.Facts.{KeptFacts, AreFactsOf, asked}
use Rattle.crn_document.specs.declared.linkage.Linkage.{Linkage}
use Rattle.crn_document.specs.declared.parts.Part.{Part}
use Rattle.crn_document.specs.Inner.Answer.{AreSmall, kind_of}

-- the questions that are answered before this one
abbrev pub before : (question : ℕ) → List Question
before question = filter (λ q. nat_lt (number_of q) question) built

-- the verdicts on these questions are known
pub record IsKnown (net : Net) (qs : List Question) (facts : KeptFacts) : Type 0 where
  pub network : IsNetwork net
  pub facts_of : AreFactsOf net facts
  pub so_far : map (λ e. e.0) facts.earlier ≡ qs

-- the linkage classes that these verdicts say, within the limits of networks
pub record IsLinkage (earlier : Earlier) (l : Linkage) : Type 0 where
  pub labels_are : l.labels.now ≡ linkage earlier
  pub count_is : l.count ≡ linkage_count earlier
  pub long : length l.labels.now ≤ MAX_COMPLEXES
  pub few : l.count ≤ MAX_COMPLEXES

-- the reaction is in this linkage class; all are in class 0
abbrev pub is_in_class : Net → List ℕ → ℕ → ℕ → Bool
is_in_class net labels zero r = true
is_in_class net labels (suc k) r =
    slice_index labels (slice_index_or net.reactions (r - 1) (0, 0)).0 == suc k

-- the reactions of this linkage class
abbrev pub members_of : Net → List ℕ → ℕ → List ℕ
members_of net labels k =
    filter (λ r. is_in_class net labels k r) (range_with_len 1 (length net.reactions))

-- the rank of the linkage class with this deficiency, and the number of its reactions
abbrev pub class_part : Net → List ℕ → ℕ → ℕ → Part
class_part net labels k d = record {
  class = k;
  rank = length (class_members labels k) - 1 - d;
  count = length (members_of net labels k);
}

-- those of the linkage classes from this one on with these deficiencies
abbrev pub class_parts : Net → List ℕ → ℕ → List ℤ → List Part
class_parts net labels k [] = []
class_parts net labels k (z ∷ zs) =
    class_part net labels k (nat_abs z) ∷ class_parts net labels (suc k) zs

-- the ranks that the records below a head of this kind with these numbers prove
abbrev pub parts_by : Net → List ℕ → HeadKind → (head : List ℤ) → List Part
parts_by net labels Rank n = record {
  class = 0;
  rank = first_number n;
  count = length net.reactions;
} ∷ []
parts_by net labels Deficiency n = class_parts net labels 1 (later_numbers n)
parts_by net labels kind n = []

-- the same, by the numbers after the place of the form
abbrev pub parts_below : Net → List ℕ → (question : ℕ) → List ℤ → List Part
parts_below net labels question head =
    parts_by net labels (kind_of (asked question) head) (later_numbers head)

-- how many reactions each of this many linkage classes has, from this one on
abbrev pub class_counts : Net → List ℕ → (k count : ℕ) → List ℕ
class_counts net labels k count =
    map (λ j. length (members_of net labels j)) (range_with_len k count)

-- the records of these ranks come one after another; the bases are of small numbers
abbrev pub FitParts : List Part → List (List ℤ) → Type 0
FitParts [] rows = rows ≡ []
FitParts (p ∷ ps) rows = (suc p.count ≤ length rows) × (p.rank ≤ p.count)
    × AreSmall (slice_index_or rows 0 []) × FitParts ps (drop (suc p.count) rows)
