-- The forms that are due, and the lines that are records of them.
use Rattle.crn_ctext.proofs.Prelude.{◌≡◌, ℕ, [], sym, ap, ◌∙◌, Option, Some, None, Record, forms_of, tag_of, IsNth, IsNthDue, tag, Expect, GivenForm}
use Rattle.crn_ctext.specs.Expect.{sizes_of}

-- a form that is no head's has no tag
pub nth_due : (e : Expect) (i : ℕ) (given : Option GivenForm) → ((r : Record) → tag_of e.due (sizes_of e.sizes) r ≡ []) → IsNth (forms_of e) i given → IsNthDue e i given
nth_due e i None none h = h
nth_due e i (Some f) none h = (h.0, h.1, λ r w. none r ∙ ap tag (sym h.2))
