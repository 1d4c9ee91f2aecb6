-- What this crate's proofs use of other crates and of its specs.
pub use Rattle.crn_sample.specs.Sample.{sample_text}
pub use Rattle.crn_sample.specs.declared.limits.TheConstants.{MAX_SAMPLE}
pub use Rattle.crn_text.proofs.CallerLemmas.{flat_map_whole, judged, no_fault}
pub use Rattle.crn_text.specs.Faults.{both_of, complexes_of, is_empty, is_self, limits_fault, names_of, reactions_of, statements_fault}
unfoldable pub use Rattle.crn_text.specs.Faults.{own_fault, statement_fault}
pub use Rattle.crn_text.specs.Sides.{all_statements, line_statements}
pub use Rattle.crn_text.specs.Spells.{Spells, TextGives, fault_on}
pub use Rattle.crn_text.specs.Tokens.{lines}
unfoldable pub use Rattle.crn_text.specs.Tokens.{first_token, tokens_after}
pub use Rattle.crn_text.specs.declared.fault.TextCode.{TextCode}
pub use Rattle.crn_text.specs.declared.fault.TextCode.TheVariants.{NoMemory}
pub use Rattle.crn_text.specs.declared.fault.TextFault.{TextFault}
pub use Rattle.crn_vec.proofs.CallerLemmas.{and_cases, and_first, firsts_length}
pub use Rattle.crn_vec.specs.Lists.{firsts}
pub use Rattle.crn_vec.specs.Network.{Net, Statement, names_in, said_by, sides_eq}
pub use Rattle.crn_vec.specs.declared.limits.TheConstants.{MAX_COMPLEXES, MAX_REACTIONS, MAX_SPECIES, MAX_TEXT}
pub use Rattle.std.proofs.Common.{Bool, Err, List, None, Option, Some, [], ap, append_assoc, arith, drop, false, get_or, inl, inr, length, refl, subst, suc, sym, take, true, zero, ℕ, ◌&&◌, ◌++◌, ◌+◌, ◌<◌, ◌∙◌, ◌∷◌, ◌≡◌, ◌≤◌}
pub use Rattle.std.proofs.lemmas.Bool.{cases_lt, le-ltb, leb-true}
pub use Rattle.std.proofs.lemmas.List.{length-append, length-map}
pub use Rattle.std.proofs.lemmas.List.Concat.{flat_map-append}
pub use Rattle.std.proofs.lemmas.List.Filters.{length-filter_both}
pub use Rattle.std.proofs.lemmas.List.Folds.{list_all-append}
pub use Rattle.std.specs.Cmp.Lexicographic.{pointwise}
unfoldable pub use Rattle.std.specs.Fmt.{digits}
pub use Rattle.std.specs.List.{flat_map, list_all}
pub use Rattle.std.specs.Ordering.{int_eq}
pub use Rattle.std.specs.Prelude.{is_some, map, nat_le, nat_lt, not, string_bytes, ℤ}
pub use Rattle.std.specs.Str.{bytes_eq}
