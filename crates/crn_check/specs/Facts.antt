-- What contracts see of facts: the accepted verdicts by question.
-- Source: this project's own.
-- Shapes: the verdicts are in the order of their questions, and their lists have no spare.
use Rattle.std.specs.Prelude.{◌≡◌, ◌≤◌, ◌<◌, ◌-◌, ℕ, List, [], ◌∷◌, map, slice_index_or}
use Rattle.std.specs.List.{AllByRecursion}
use Rattle.crn_vec.specs.Lists.{IsIn}
use Rattle.crn_vec.specs.Network.{Net}
use Rattle.crn_cert.specs.Questions.{Earlier, Question, Q15, questions, number}
use Rattle.crn_cert.specs.Verdicts.{all_tight}
use Rattle.crn_cert.specs.FormedVerdicts.{AreFormedVerdicts}
use Rattle.crn_cert.specs.Law.{IsTrueOrOpen}
use Rattle.crn_vec.specs.declared.limits.TheConstants.{MAX_REACTIONS}
use Rattle.crn_check.specs.declared.facts.Room.{Room}

-- the accepted verdicts, each with its question
pub record KeptFacts : Type 0 where
  pub earlier : Earlier

-- the question of this number
abbrev pub asked : ℕ → Question
asked n = slice_index_or questions (n - 1) Q15

-- there is a verdict on the question of this number
abbrev pub HoldsOn : Earlier → ℕ → Type 0
HoldsOn earlier n = IsIn n (map (λ e. number e.0) earlier)

-- there is no verdict on the question of this number or on a later one
abbrev pub HoldsNoneFrom : ℕ → Earlier → Type 0
HoldsNoneFrom n earlier = AllByRecursion (λ e. number e.0 < n) earlier

-- each verdict that is held has a form that the network admits, lists with no spare, and is true of
-- the network or open
pub record AreFactsOf (net : Net) (facts : KeptFacts) : Type 0 where
  pub formed : AreFormedVerdicts net [] (map (λ e. e.0) facts.earlier)
      (map (λ e. e.1) facts.earlier)
  pub spareless : all_tight facts.earlier ≡ facts.earlier
  pub sound : AllByRecursion (λ e. IsTrueOrOpen net e.0 e.1) facts.earlier

-- numbers of questions above k, each less than the next
abbrev pub AreInOrder : ℕ → List ℕ → Type 0
AreInOrder k [] = k ≤ 15
AreInOrder k (n ∷ ns) = (k < n) × AreInOrder n ns

-- the lists are empty and have memory for as many numbers as a list of a verdict may have
pub record IsRoom (room : Room) : Type 0 where
  pub first_empty : room.first.list ≡ []
  pub first_room : MAX_REACTIONS ≤ room.first.spare
  pub second_empty : room.second.list ≡ []
  pub second_room : MAX_REACTIONS ≤ room.second.spare
  pub large_empty : room.large.list ≡ []
  pub large_room : MAX_REACTIONS ≤ room.large.spare
  pub other_empty : room.other.list ≡ []
  pub other_room : MAX_REACTIONS ≤ room.other.spare
  pub third_empty : room.third.list ≡ []
  pub third_room : MAX_REACTIONS ≤ room.third.spare
