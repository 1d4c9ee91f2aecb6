-- What this crate's proofs use of other crates and of its specs.
pub use Rattle.crn_cert.proofs.CallerLemmas.{between_back, goes_at, label_inside, least_one, named_in}
pub use Rattle.crn_cert.specs.ClassTests.{AreAllExits, AreEven, AreFromTrees, AreLinkTrees, AreNumbered, AreReverses, AreToTrees, DoLevelsFall, GoesOut, IsReverse, IsTree, of_class, zeros_in}
pub use Rattle.crn_cert.specs.Parts.{IsForest}
pub use Rattle.crn_cert.specs.Ranges.{AreFrom, IsFrom}
pub use Rattle.crn_cert.specs.Says.{HasNoReverse, IsReactionNumber, WalkLeads, from_zero}
pub use Rattle.crn_graph.specs.Arcs.{AreInside, HasArc, arc_at, no_arc}
pub use Rattle.crn_graph.specs.Forest.{AreJoined, DoLeadBack, HangsByArc}
pub use Rattle.crn_graph.specs.Inner.Arcs.{Adds, Allows, AreArcsOf, AreArcsTo, AreArcsWithin}
pub use Rattle.crn_graph.specs.Inner.Graph.{IsChained, IsNext}
pub use Rattle.crn_graph.specs.Inner.Linkage.{AreClassesTo, IsPlaced, IsReturning}
pub use Rattle.crn_graph.specs.Inner.Pair.{IsSearched, IsStepBack, IsWalkBack, mark_of, marks_of}
pub use Rattle.crn_graph.specs.Inner.Ranks.{AreFollowed, AreLongRanks, AreOpen, AreParts, AreRanked, AreRanks, HasClosed, HasCome, HasEntered, HasMerged, IsOnPath, IsOpenEnd, IsPath, IsRanking, IsRest, IsSettled, IsUnranked, KeepsPlaces, open_at, path_at, place_at, rank_at, rest_at, start_at, weight}
pub use Rattle.crn_graph.specs.Inner.Search.{AreLong, GoesOn, IsBlank, IsFollowed, IsReach, IsReady, IsSpreading, KeepsLabels, Steps, depth_at, first_found, found_at, label_at, up_at, zeros}
pub use Rattle.crn_graph.specs.Inner.Strong.{AreStrong}
pub use Rattle.crn_graph.specs.Pair.{HasSide, HasWayRound}
pub use Rattle.crn_graph.specs.declared.arcs.Arc.{Arc}
pub use Rattle.crn_graph.specs.declared.arcs.Way.{Way}
pub use Rattle.crn_graph.specs.declared.arcs.Way.TheVariants.{Against, Along, Links, Round}
pub use Rattle.crn_graph.specs.declared.ranks.Ranking.{Ranking}
pub use Rattle.crn_graph.specs.declared.search.Search.{Search}
pub use Rattle.crn_vec.proofs.CallerLemmas.{all_at, all_from, all_push, in_at, is_between, leads_here, leads_keeps, leads_step, leads_then, marks_are_sides}
pub use Rattle.crn_vec.specs.CutPairs.{IsBetween, IsFreeStep, IsMarking}
pub use Rattle.crn_vec.specs.Linkage.{AreRightLabels, IsLabelCount, IsLinked, SameClass}
pub use Rattle.crn_vec.specs.Lists.{IsIn}
pub use Rattle.crn_vec.specs.Network.{Net}
pub use Rattle.crn_vec.specs.Strong.{AreRightStrongLabels, IsReaction, IsReversible, Reaches, ReactsTo, SameStrong}
pub use Rattle.crn_vec.specs.Vectors.{entry}
pub use Rattle.crn_vec.specs.Walks.{AreLabelsOf, IsAlong, LeadsTo}
pub use Rattle.std.proofs.Common.{Global, List, Vec, [], ap, arith, get_or, inl, inr, length, refl, set, subst, suc, sym, take, zero, ℕ, ◌++◌, ◌+◌, ◌-◌, ◌<◌, ◌∙◌, ◌∷◌, ◌≡◌, ◌≢◌, ◌≤◌, ◌⊎◌}
pub use Rattle.std.proofs.lemmas.Bool.{cases_eq, cases_lt}
pub use Rattle.std.proofs.lemmas.Grind.{same_number_lists}
pub use Rattle.std.proofs.lemmas.Int.{ints}
pub use Rattle.std.proofs.lemmas.List.{get_or-set_other, get_or-set_same, get_or_append_left, get_or_push, get_or_read, length-append, length-map, length-set, map-append}
pub use Rattle.std.proofs.lemmas.List.Sums.{count_by-le-length, sum_by-cons, sum_by-set}
pub use Rattle.std.proofs.lemmas.Result.{IfOk-weaker}
pub use Rattle.std.specs.List.{AllByRecursion}
pub use Rattle.std.specs.Prelude.{if◌then◌else◌, pos, sum_by, ◌==◌}
pub use Rattle.std.specs.Vec.{with_item}
