-- What this crate's proofs use of other crates and of its specs.
pub use Rattle.crn_io.specs.Device.{SinkSeen}
pub use Rattle.crn_io.specs.Inner.Gather.{AreHeld, EndsAt}
pub use Rattle.crn_io.specs.Joined.{joined, with_separator}
pub use Rattle.crn_io.specs.Lines.{BreaksLine, ExceedsDocument, ExceedsLine, HasMore, IsBegun, IsLine, IsLineAt, LacksLine, Place, document_too_long, line_too_long, otherwise}
pub use Rattle.crn_io.specs.Next.{AreAsked, DueIs, EndIs, IsCause, KeptLines, NextIs, place}
pub use Rattle.crn_io.specs.Pull.{Consumes}
pub use Rattle.crn_io.specs.Push.{Adds, HasNoRoom, Lowers}
pub use Rattle.crn_io.specs.Write.{AddsPrefix, Wrote, WroteAll, WrotePrefix}
pub use Rattle.crn_io.specs.declared.lines.TheConstants.{MAX_AHEAD, MAX_DOCUMENT, MAX_LINE}
pub use Rattle.crn_io.specs.declared.next.Next.{Next}
pub use Rattle.crn_io.specs.declared.next.Next.TheVariants.{DocumentTooLong, End, Failed, Last, Line, LineTooLong}
pub use Rattle.std.proofs.Common.{Bool, Err, List, None, Ok, Option, Result, Some, [], add-one, ap, append_assoc, ap₂, arith, drop, false, get_or, inl, inr, length, length-drop, min, refl, subst, suc, sym, take, take_all, vec_capacity, vec_len, zero, ℕ, ◌++◌, ◌+◌, ◌-◌, ◌<◌, ◌==◌, ◌∙◌, ◌∷◌, ◌≡◌, ◌≤◌, ◌⊎◌}
pub use Rattle.std.proofs.Math.Seq.{take-append-add, take-append_seam}
pub use Rattle.std.proofs.lemmas.Bool.{cases_lt}
pub use Rattle.std.proofs.lemmas.Bool.Decides.{eqb_tells}
pub use Rattle.std.proofs.lemmas.List.{append-nil, drop-drop, drop_more, get_or-append-add, length-append, length-take, take-append-drop, take-append-le, take-take}
pub use Rattle.std.proofs.lemmas.List.Concat.{flat_map-append}
pub use Rattle.std.proofs.lemmas.List.Elements.{All-append, All-cons, All-head, All-nil, All-tail, All-take}
pub use Rattle.std.proofs.lemmas.Result.{err_from_is_err_and}
pub use Rattle.std.specs.List.{flat_map}
pub use Rattle.std.specs.Prelude.{fold}
