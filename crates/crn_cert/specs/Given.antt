-- What earlier verdicts give to the questions on deficiencies.
-- Source: this project's own.
-- Shapes: `earlier` holds the verdicts on earlier questions, each with its question. Labels count
-- from 1.
use Rattle.std.specs.Prelude.{◌≡◌, ℕ, List, Some, length}
use Rattle.crn_cert.specs.Questions.{Earlier, Q2, Q5, on, count_of, rank_of}
use Rattle.crn_cert.specs.Valid.{linkage, linkage_count, strong, exits}

-- earlier verdicts give these labels of the linkage classes, their number, and this rank
pub record GiveRank (earlier : Earlier) (labels : List ℕ) (count rank : ℕ) : Type 0 where
  pub labels_are : linkage earlier ≡ labels
  pub count_is : linkage_count earlier ≡ count
  pub rank_is : rank_of (on earlier Q5) ≡ Some rank

-- earlier verdicts give these labels of the linkage classes, their number, and these labels and
-- exits of the strong classes, one exit for each class
pub record GiveClasses (earlier : Earlier) (labels : List ℕ) (count : ℕ)
    (strong_labels exits_of : List ℕ) : Type 0 where
  pub labels_are : linkage earlier ≡ labels
  pub count_is : linkage_count earlier ≡ count
  pub strong_are : strong earlier ≡ strong_labels
  pub exits_are : exits earlier ≡ exits_of
  pub strong_count : count_of (on earlier Q2) ≡ length exits_of
