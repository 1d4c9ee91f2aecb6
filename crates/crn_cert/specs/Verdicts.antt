-- Verdicts and proofs without the spares of their lists.
-- Source: this project's own.
use Rattle.std.specs.Prelude.{map}
use Rattle.crn_vec.specs.Kept.{KeptInts, KeptNums}
use Rattle.crn_cert.specs.declared.answer.Gap.{Gap}
use Rattle.crn_cert.specs.declared.answer.Gap.TheVariants.{Wide, Budget, Rests}
use Rattle.crn_cert.specs.declared.answer.Verdict.{Verdict}
use Rattle.crn_cert.specs.declared.answer.Verdict.TheVariants.{Classes, Strong, Rank, Deficiency, YesVec, YesSignal, NoVec, NoCycle, NoPair, Plane, Unknown}
use Rattle.crn_cert.specs.declared.answer.Proof.{Proof}
use Rattle.crn_cert.specs.declared.answer.Proof.TheVariants.{Forest, Strong as StrongTrees, Back, Rank as RankRows, Ranks}
use Rattle.crn_cert.specs.declared.answer.RankProof.{RankProof}
use Rattle.crn_cert.specs.Questions.{Earlier}

-- the list of natural numbers, with no spare
abbrev pub tight_nums : KeptNums → KeptNums
tight_nums kept = record { list = kept.list; spare = 0 }

-- the list of signed numbers, with no spare
abbrev pub tight_ints : KeptInts → KeptInts
tight_ints kept = record { list = kept.list; spare = 0 }

-- what leaves a question open, with no spare
abbrev pub tight_gap : Gap → Gap
tight_gap (Wide system class index basis) = Wide system class index (tight_nums basis)
tight_gap (Budget nodes) = Budget nodes
tight_gap (Rests question) = Rests question

-- the verdict with the same lists, which have no spare
abbrev pub tight : Verdict → Verdict
tight (Classes count label) = Classes count (tight_nums label)
tight (Strong count terminal label exit) =
    Strong count terminal (tight_nums label) (tight_nums exit)
tight (Rank rank base) = Rank rank (tight_nums base)
tight (Deficiency total classes) = Deficiency total (tight_nums classes)
tight (YesVec vector) = YesVec (tight_ints vector)
tight (YesSignal turn shelves mu level weights) =
    YesSignal turn (tight_ints shelves) (tight_ints mu) level (tight_ints weights)
tight (NoVec multipliers) = NoVec (tight_ints multipliers)
tight (NoCycle reaction walk) = NoCycle reaction (tight_nums walk)
tight (NoPair alpha weights) = NoPair (tight_ints alpha) (tight_ints weights)
tight (Plane first second one two) = Plane first second (tight_ints one) (tight_ints two)
tight (Unknown gap) = Unknown (tight_gap gap)
tight other = other

-- the proof of a rank, with no spare
abbrev pub tight_rank : RankProof → RankProof
tight_rank proof = record {
  base = tight_nums proof.base;
  duals = proof.duals;
  combs = proof.combs;
}

-- the proof with the same lists, which have no spare, but for the lists in trees
abbrev pub tight_proof : Proof → Proof
tight_proof (Forest up depth) = Forest (tight_nums up) (tight_nums depth)
tight_proof (StrongTrees from from_depth to to_depth level) =
    StrongTrees (tight_nums from) (tight_nums from_depth) (tight_nums to) (tight_nums to_depth)
    (tight_nums level)
tight_proof (Back back) = Back (tight_nums back)
tight_proof (RankRows proof) = RankRows (tight_rank proof)
tight_proof (Ranks list) = Ranks (map tight_rank list)
tight_proof other = other

-- verdicts with their questions, with no spares
abbrev pub all_tight : Earlier → Earlier
all_tight earlier = map (λ e. (e.0, tight e.1)) earlier
