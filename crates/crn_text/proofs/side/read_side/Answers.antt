use Rattle.crn_text.proofs.Prelude.{◌≡◌, ◌∙◌, false, sym, tokens, is_zero}
use Rattle.crn_text.proofs.PlacesRead.{rest_left, terms_more, fault_no_term, fault_limits, fault_sums, small_counts, few_terms, reads_all}
use Rattle.crn_text.proofs.side.read_side.Goals as goal

pub returns-then-not-is_within_limits : goal.returns-then-not-is_within_limits
returns-then-not-is_within_limits c =
    let place = c.next_place-found.ensures c.args.body.now (rest_left c.places.invariant c.in-Some.is) in
    let reads = rw c.in-Some-found.is at place.reads in
    let not_zero : is_zero (tokens c.args.side.now) ≡ false = sym c.is_single_zero.ensures ∙ c.if-is_single_zero.false in
    fault_limits c.in-Some-found.term c.places.invariant c.in-Some.is place.split not_zero reads (sym c.is_within_limits.ensures ∙ c.if-not-is_within_limits.true)

pub returns-in_default-found : goal.returns-in_default-found
returns-in_default-found c =
    let place = c.next_place-found.ensures c.args.body.now (rest_left c.places.invariant c.in-Some.is) in
    let not_zero : is_zero (tokens c.args.side.now) ≡ false = sym c.is_single_zero.ensures ∙ c.if-is_single_zero.false in
    fault_no_term c.next_place-found.result.0 c.places.invariant c.in-Some.is place.split not_zero place.reads c.in_default-found.is

pub sums_fit-requires-clause-numbers : goal.sums_fit-requires-clause-numbers
sums_fit-requires-clause-numbers c =
    let place = c.next_place-found.ensures c.args.body.now (rest_left c.places.invariant c.in-Some.is) in
    let reads = rw c.in-Some-found.is at place.reads in
    let push = c.deref-then-have_grown.ensures.value ∙ c.in_ok-push.ensures.items in
    small_counts (terms_more c.in-Some-found.term c.deref-then-have_grown.result.now c.places.invariant c.in-Some.is place.split reads (sym c.is_within_limits.ensures ∙ c.if-not-is_within_limits.false) push)

pub sums_fit-requires-clause-few : goal.sums_fit-requires-clause-few
sums_fit-requires-clause-few c =
    let place = c.next_place-found.ensures c.args.body.now (rest_left c.places.invariant c.in-Some.is) in
    let reads = rw c.in-Some-found.is at place.reads in
    let push = c.deref-then-have_grown.ensures.value ∙ c.in_ok-push.ensures.items in
    few_terms (terms_more c.in-Some-found.term c.deref-then-have_grown.result.now c.places.invariant c.in-Some.is place.split reads (sym c.is_within_limits.ensures ∙ c.if-not-is_within_limits.false) push) c.requires.occurs c.requires.short

pub returns-then-not-branch : goal.returns-then-not-branch
returns-then-not-branch c =
    let place = c.next_place-found.ensures c.args.body.now (rest_left c.places.invariant c.in-Some.is) in
    let reads = rw c.in-Some-found.is at place.reads in
    let not_zero : is_zero (tokens c.args.side.now) ≡ false = sym c.is_single_zero.ensures ∙ c.if-is_single_zero.false in
    let push = c.deref-then-have_grown.ensures.value ∙ c.in_ok-push.ensures.items in
    let more = terms_more c.in-Some-found.term c.deref-then-have_grown.result.now c.places.invariant c.in-Some.is place.split reads (sym c.is_within_limits.ensures ∙ c.if-not-is_within_limits.false) push in
    fault_sums c.in_ok-sums_fit.field-0 more not_zero c.in_ok-sums_fit.ensures c.if-not-branch.true

pub places-preserved : goal.places-preserved
places-preserved c =
    let place = c.next_place-found.ensures c.args.body.now (rest_left c.places.invariant c.in-Some.is) in
    let reads = rw c.in-Some-found.is at place.reads in
    terms_more c.in-Some-found.term c.push.new.self.items c.places.invariant c.in-Some.is place.split reads (sym c.is_within_limits.ensures ∙ c.if-not-is_within_limits.false) c.in_ok-push.ensures.items

pub sums_fit-requires-2-clause-numbers : goal.sums_fit-requires-2-clause-numbers
sums_fit-requires-2-clause-numbers c = rw c.deref-2.ensures.value (small_counts c.places.invariant)

pub returns : goal.returns
returns c =
    let not_zero : is_zero (tokens c.args.side.now) ≡ false = sym c.is_single_zero.ensures ∙ c.if-is_single_zero.false in
    reads_all c.deref-2.result.now c.sums_fit-2.result c.places.invariant c.in_default.is not_zero c.requires.occurs c.requires.short c.deref-2.ensures.value c.sums_fit-2.ensures
