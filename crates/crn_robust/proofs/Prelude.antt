-- What this crate's proofs use of other crates and of its specs.
pub use Rattle.crn_cert.specs.Law.{IsTrueOrOpen}
pub use Rattle.crn_cert.specs.Questions.{IsOpen, Q1, Q2, Q5, count_of, exits_of, labels_of}
pub use Rattle.crn_cert.specs.Says.{AreLinkageClasses, IsTrueOf}
pub use Rattle.crn_cert.specs.declared.answer.Verdict.{Verdict}
pub use Rattle.crn_cert.specs.declared.answer.Verdict.TheVariants.{Classes, Rank, Strong, Unknown}
pub use Rattle.crn_robust.specs.Inner.Pairs.{HasNoFirst, HasNoPartner, HasStrong, IsDifference}
pub use Rattle.crn_robust.specs.Law.{CasesAreOne, CasesDecideRobustness, LinesAreTrue}
pub use Rattle.crn_robust.specs.Robust.{DifferAt, IsLeastPair, IsNoLater, IsRobustPair}
pub use Rattle.crn_robust.specs.declared.robust.Robust.TheVariants.{None, Number, Rests, Yes}
pub use Rattle.crn_space.proofs.CallerLemmas.{number_of_classes, one_leaves_line, rank_leaves}
pub use Rattle.crn_vec.proofs.CallerLemmas.{deficiency_is_one, eq_or, lt_or, past_end, vector_long}
pub use Rattle.crn_vec.specs.Deficiency.{IsDeficiency, vectors}
pub use Rattle.crn_vec.specs.Kept.{KeptNums}
pub use Rattle.crn_vec.specs.Network.{IsNetwork, Net}
pub use Rattle.crn_vec.specs.Rank.{IsRank}
pub use Rattle.crn_vec.specs.Vectors.{entry}
pub use Rattle.crn_vec.specs.declared.limits.TheConstants.{MAX_COMPLEXES, MAX_SPECIES}
pub use Rattle.std.proofs.Common.{List, [], ap, arith, get_or, inl, inr, length, refl, subst, sym, ℕ, ◌+◌, ◌-◌, ◌<◌, ◌∙◌, ◌≡◌, ◌≢◌, ◌≤◌, ◌⊎◌}
pub use Rattle.std.proofs.lemmas.Bool.{eq-eqb, eqb-true}
pub use Rattle.std.specs.Prelude.{ℤ}
