-- A side as its places are read one after the other.
use Rattle.crn_text.proofs.Prelude.{◌≡◌, ℕ, ◌+◌, ◌*◌, ◌<◌, ◌≤◌, Bool, true, false, List, [], ◌∷◌, ◌++◌, length, Option, Some, None, Bor, Result, Ok, Err, refl, sym, ap, ap₂, subst, ◌∙◌, append_assoc, arith, nat_le, ◌&&◌, ◌↔◌, IsTrue, IfOk, AllByRecursion, list_all, and_from, and_parts, le-leb, leb-true, length-append, append-nil, map-append, map_push, length-take, length-drop, list_all-append, amount_in, MAX_TEXT, MAX_TERMS, MAX_AMOUNT, MAX_NAME, name_at, side_of, IsTerm, IsSide, Term, Token, tokens, tokens_after, is_term, term_of, terms_of, is_zero, places, IsSoundTerm, IsSoundSide, sides_fault, OccursIn, SplitsAt, ReadsTerm, is_within, ReadsSide, all_push}
use Rattle.std.specs.Prelude.{map}
use Rattle.crn_text.proofs.Places.{places_after, places_split}
use Rattle.crn_text.proofs.Splits.{split_size}
use Rattle.crn_text.proofs.Terms.{piece_size, occurs_split}
use Rattle.crn_text.proofs.Totals.{amount_prefix, amounts_small}
use Rattle.crn_text.proofs.Checks.{HoldsTerm, Passes, passes, no_fault, terms_are, place_passes, sound_passes}

-- a term of the body with its name and its number within the limits
pub record IsKept (body : List ℕ) (t : Term) : Type 0 where
  pub term : IsTerm body t
  pub small : t.count ≤ MAX_AMOUNT

-- what is left of a side ends with the side
abbrev pub OccursLeft : List ℕ → ℕ → Option (Bor (List ℕ)) → Type 0
OccursLeft body end None = Unit {0}
OccursLeft body end (Some rest) = OccursIn body rest.now end

-- one more than the number of bytes that are left, or 0 if no place is left
abbrev pub size_left : Option (Bor (List ℕ)) → ℕ
size_left None = 0
size_left (Some rest) = length rest.now + 1

-- the terms are those of the places that are no longer left
pub record TermsUpTo (body side : List ℕ) (end : ℕ) (terms : List Term) (left : Option (Bor (List ℕ))) : Type 0 where
  pub read : List (List Token)
  pub split : places (tokens side) ≡ read ++ places_after left
  pub all : list_all is_term read ≡ true
  pub same : side_of body terms ≡ map term_of read
  pub kept : AllByRecursion (IsKept body) terms
  pub occurs : OccursLeft body end left
  pub few : 2 * length terms + size_left left ≤ length side + 1

some_byte : (place : List ℕ) → is_term (tokens place) ≡ true → 1 ≤ length place
unfolding tokens_after
some_byte [] h = absurd cc
some_byte (b ∷ bs) h = omega arith

name_length : (body : List ℕ) (t : Term) → t.at + t.length ≤ length body → length (name_at body t) ≡ t.length
name_length body t h = simp (length-take, length-drop) (omega arith)

kept_term : (body place : List ℕ) (t : Term) → ReadsTerm body place (Some t) → is_within t ≡ true → IsKept body t
kept_term body place t r within =
    let tests = and_parts (nat_le t.length MAX_NAME) (nat_le 1 t.count && nat_le t.count MAX_AMOUNT) within in
    let counts = and_parts (nat_le 1 t.count) (nat_le t.count MAX_AMOUNT) tests.1 in
    let long : t.length ≤ MAX_NAME = leb-true t.length MAX_NAME tests.0 in
    let short : length (name_at body t) ≤ MAX_NAME = omega (arith, name_length body t r.1.inside) in
    record {
      term = record { inside = r.1.inside; name = (r.1.named, short); some = leb-true 1 t.count counts.0 };
      small = leb-true t.count MAX_AMOUNT counts.1;
    }

occurs_left : (body : List ℕ) (end : ℕ) (rest : Bor (List ℕ)) (place : List ℕ) (after : Option (Bor (List ℕ))) → OccursIn body rest.now end → SplitsAt 43 rest.now place after → OccursLeft body end after
occurs_left body end rest place None h split = tt
occurs_left body end rest place (Some next) h split = occurs_split 43 body rest.now place next end h split

-- what is left after a place, with the mark before it, is what was left without the place
left_size : (rest : Bor (List ℕ)) (place : List ℕ) (after : Option (Bor (List ℕ))) → SplitsAt 43 rest.now place after → length place + size_left after ≡ length rest.now
left_size rest place None split = omega (arith, split_size 43 rest.now place None split)
left_size rest place (Some next) split = omega (arith, split_size 43 rest.now place (Some next) split)

-- each place makes what is left smaller
pub left_smaller : {left : Option (Bor (List ℕ))} {rest : Bor (List ℕ)} {place : List ℕ} {after : Option (Bor (List ℕ))} → left ≡ Some rest → SplitsAt 43 rest.now place after → size_left after < size_left left
left_smaller {left} {rest} {place} {after} is split = omega (arith, left_size rest place after split, ap size_left is)

at_rest : {body side : List ℕ} {end : ℕ} {terms : List Term} {left : Option (Bor (List ℕ))} {rest : Bor (List ℕ)} → TermsUpTo body side end terms left → left ≡ Some rest → TermsUpTo body side end terms (Some rest)
at_rest {body} {side} {end} {terms} h is = subst (λ (o : Option (Bor (List ℕ))). TermsUpTo body side end terms o) is h

-- what is left of a side ends with the side
pub rest_left : {body side : List ℕ} {end : ℕ} {terms : List Term} {left : Option (Bor (List ℕ))} {rest : Bor (List ℕ)} → TermsUpTo body side end terms left → left ≡ Some rest → OccursIn body rest.now end
rest_left h is = (at_rest h is).occurs

place_split : {body side : List ℕ} {end : ℕ} {terms : List Term} {rest : Bor (List ℕ)} {place : List ℕ} {after : Option (Bor (List ℕ))} → (h : TermsUpTo body side end terms (Some rest)) → SplitsAt 43 rest.now place after → places (tokens side) ≡ h.read ++ tokens place ∷ places_after after
place_split {rest = rest} {place = place} {after = after} h split = h.split ∙ ap (λ (u : List (List Token)). h.read ++ u) (places_split rest.now place after split)

same_more : (body : List ℕ) (terms : List Term) (t : Term) (read : List (List Token)) (place : List Token) → side_of body terms ≡ map term_of read → (name_at body t, t.count) ≡ term_of place → side_of body (terms ++ t ∷ []) ≡ map term_of (read ++ place ∷ [])
same_more body terms t read place same term = map_push (λ (t : Term). (name_at body t, t.count)) terms t ∙ ap₂ (λ (u : List (List ℕ × ℕ)) (x : List ℕ × ℕ). u ++ x ∷ []) same term ∙ sym (map_push term_of read place)

-- one more place is read, and its term is kept
pub terms_more : {body side : List ℕ} {end : ℕ} {terms : List Term} {left : Option (Bor (List ℕ))} {rest : Bor (List ℕ)} {place : List ℕ} {after : Option (Bor (List ℕ))} (t : Term) (new : List Term) → TermsUpTo body side end terms left → left ≡ Some rest → SplitsAt 43 rest.now place after
    → ReadsTerm body place (Some t) → is_within t ≡ true → new ≡ terms ++ t ∷ [] → TermsUpTo body side end new after
terms_more {body} {side} {end} {terms} {left} {rest} {place} {after} t new before is split reads within push =
    let h = at_rest before is in
    let r = reads in
    let kept = kept_term body place t r within in
    let small = kept.small in
    let exact : t.count ≡ (term_of (tokens place)).1 = let counts = r.3 in omega arith in
    let term : (name_at body t, t.count) ≡ term_of (tokens place) = ap₂ (λ (n : List ℕ) (k : ℕ). (n, k)) r.2 exact in
    let some = some_byte place r.0 in
    let more : TermsUpTo body side end (terms ++ t ∷ []) after = record {
      read = h.read ++ tokens place ∷ [];
      split = place_split h split ∙ sym (append_assoc h.read (tokens place ∷ []) (places_after after));
      all = list_all-append is_term h.read (tokens place ∷ []) ∙ and_from _ _ h.all (and_from _ _ r.0 refl);
      same = same_more body terms t h.read (tokens place) h.same term;
      kept = all_push (IsKept body) terms t h.kept kept;
      occurs = occurs_left body end rest place after h.occurs split;
      few = omega (arith, h.few, length-append terms (t ∷ []), left_size rest place after split, some);
    } in
    rw push more

-- ---- faults of a place and of the sums

next_holds : {body side : List ℕ} {end : ℕ} {terms : List Term} {rest : Bor (List ℕ)} {place : List ℕ} {after : Option (Bor (List ℕ))} → TermsUpTo body side end terms (Some rest) → SplitsAt 43 rest.now place after → is_zero (tokens side) ≡ false → Passes (tokens side) → HoldsTerm (tokens place)
next_holds {side = side} {place = place} {after = after} h split not_zero p = place_passes (tokens side) h.read (places_after after) (tokens place) not_zero p (place_split h split)

-- a place that holds no term is a fault
pub fault_no_term : {body side : List ℕ} {end : ℕ} {terms : List Term} {left : Option (Bor (List ℕ))} {rest : Bor (List ℕ)} {place : List ℕ} {after : Option (Bor (List ℕ))} (r : Option Term) → TermsUpTo body side end terms left → left ≡ Some rest → SplitsAt 43 rest.now place after → is_zero (tokens side) ≡ false
    → ReadsTerm body place r → r ≡ None → sides_fault (tokens side ∷ []) ≡ None → ⊥
fault_no_term {body} {side} {place = place} r before is split not_zero reads none fine =
    let h = at_rest before is in
    let holds = (next_holds h split not_zero (passes (tokens side) fine)).term in
    let not_term : is_term (tokens place) ≡ false = rw none at reads in
    cc

within : (body place : List ℕ) (t : Term) → HoldsTerm (tokens place) → ReadsTerm body place (Some t) → is_within t ≡ true
within body place t h r =
    let sound = h.sound in
    let name = sound.name in
    let some = sound.some in
    let few = sound.few in
    let counts = r.3 in
    let long : t.length ≤ MAX_NAME = omega (arith, name_length body t r.1.inside, ap length r.2, name) in
    and_from _ _ (le-leb t.length MAX_NAME long) (and_from _ _ (le-leb 1 t.count (omega arith)) (le-leb t.count MAX_AMOUNT (omega arith)))

-- a term with its name or its number out of the limits is a fault
pub fault_limits : {body side : List ℕ} {end : ℕ} {terms : List Term} {left : Option (Bor (List ℕ))} {rest : Bor (List ℕ)} {place : List ℕ} {after : Option (Bor (List ℕ))} (t : Term) → TermsUpTo body side end terms left → left ≡ Some rest → SplitsAt 43 rest.now place after → is_zero (tokens side) ≡ false
    → ReadsTerm body place (Some t) → is_within t ≡ false → sides_fault (tokens side ∷ []) ≡ None → ⊥
fault_limits {body} {side} {place = place} t before is split not_zero reads not_within fine =
    let h = at_rest before is in
    let yes = within body place t (next_holds h split not_zero (passes (tokens side) fine)) reads in
    cc

sums_small : {body side : List ℕ} {end : ℕ} {terms : List Term} {left : Option (Bor (List ℕ))} → TermsUpTo body side end terms left → is_zero (tokens side) ≡ false → Passes (tokens side) → (name : List ℕ) → amount_in (side_of body terms) name ≤ MAX_AMOUNT
sums_small {body} {side} {end} {terms} {left} h not_zero p name =
    let whole : terms_of (tokens side) ≡ side_of body terms ++ map term_of (places_after left) = terms_are (tokens side) not_zero ∙ ap (map term_of) h.split ∙ map-append term_of h.read (places_after left) ∙ ap (λ (u : List (List ℕ × ℕ)). u ++ map term_of (places_after left)) (sym h.same) in
    omega (arith, amount_prefix (side_of body terms) (map term_of (places_after left)) name, ap (λ (u : List (List ℕ × ℕ)). amount_in u name) whole, amounts_small (terms_of (tokens side)) p.small name)

-- a sum that exceeds the limit is a fault, however much of the side is left
pub fault_sums : {body side : List ℕ} {end : ℕ} {terms : List Term} {left : Option (Bor (List ℕ))} (fit : Bool) → TermsUpTo body side end terms left → is_zero (tokens side) ≡ false → (IsTrue fit ↔ ((name : List ℕ) → amount_in (side_of body terms) name ≤ MAX_AMOUNT)) → fit ≡ false → sides_fault (tokens side ∷ []) ≡ None → ⊥
fault_sums {side = side} fit h not_zero fits not_fit fine = let yes = fits.1 (sums_small h not_zero (passes (tokens side) fine)) in cc (yes, not_fit)

-- ---- the whole side

all_weaker : {X : Type 0} (P Q : X → Type 0) → ((x : X) → P x → Q x) → (xs : List X) → AllByRecursion P xs → AllByRecursion Q xs
all_weaker P Q so [] h = tt
all_weaker P Q so (x ∷ xs) h = (so x h.0, all_weaker P Q so xs h.1)

terms_sound : (body : List ℕ) (ts : List Term) → AllByRecursion (IsKept body) ts → AllByRecursion IsSoundTerm (side_of body ts)
terms_sound body [] h = tt
terms_sound body (t ∷ ts) h = (record { name = h.0.term.name.1; some = h.0.term.some; few = h.0.small }, terms_sound body ts h.1)

pub small_counts : {body side : List ℕ} {end : ℕ} {terms : List Term} {left : Option (Bor (List ℕ))} → TermsUpTo body side end terms left → AllByRecursion (λ t. t.count ≤ MAX_AMOUNT) terms
small_counts {body} {terms = terms} h = all_weaker (IsKept body) (λ t. t.count ≤ MAX_AMOUNT) (λ t k. k.small) terms h.kept

pub few_terms : {body side : List ℕ} {end : ℕ} {terms : List Term} {left : Option (Bor (List ℕ))} → TermsUpTo body side end terms left → OccursIn body side end → length body ≤ MAX_TEXT → length terms ≤ MAX_TERMS
few_terms {body} {side} {end} h occurs short = omega (arith, h.few, piece_size body side end occurs)

all_read : {body side : List ℕ} {end : ℕ} {terms : List Term} {left : Option (Bor (List ℕ))} → TermsUpTo body side end terms left → left ≡ None → is_zero (tokens side) ≡ false → OccursIn body side end → length body ≤ MAX_TEXT → ((name : List ℕ) → amount_in (side_of body terms) name ≤ MAX_AMOUNT)
    → (sides_fault (tokens side ∷ []) ≡ None) × IsSide body terms × (side_of body terms ≡ terms_of (tokens side))
all_read {body} {side} {end} {terms} h none not_zero occurs short sums =
    let split : places (tokens side) ≡ h.read = h.split ∙ ap (λ (o : Option (Bor (List ℕ))). h.read ++ places_after o) none ∙ append-nil h.read in
    let all : list_all is_term (places (tokens side)) ≡ true = ap (list_all is_term) split ∙ h.all in
    let same : side_of body terms ≡ terms_of (tokens side) = h.same ∙ ap (map term_of) (sym split) ∙ sym (terms_are (tokens side) not_zero) in
    let sound : IsSoundSide (side_of body terms) = record { each = terms_sound body terms h.kept; sums = sums } in
    let side_is : IsSide body terms = record { each = all_weaker (IsKept body) (IsTerm body) (λ t k. k.term) terms h.kept; amounts = sums; few = few_terms h occurs short } in
    (no_fault (tokens side) (sound_passes (tokens side) not_zero all (subst IsSoundSide same sound)), side_is, same)

-- if no place is left, the sums decide
pub reads_all : {E : Type 0} {body side : List ℕ} {end : ℕ} {terms : List Term} {left : Option (Bor (List ℕ))} (now : List Term) (r : Result Bool E) → TermsUpTo body side end terms left → left ≡ None → is_zero (tokens side) ≡ false → OccursIn body side end → length body ≤ MAX_TEXT → now ≡ terms
    → IfOk r (λ fit. IsTrue fit ↔ ((name : List ℕ) → amount_in (side_of body now) name ≤ MAX_AMOUNT)) → ReadsSide body side terms r
reads_all now (Err error) h none not_zero occurs short is fits = tt
reads_all now (Ok true) h none not_zero occurs short is fits = all_read h none not_zero occurs short (rw is at fits.0 refl)
reads_all now (Ok false) h none not_zero occurs short is fits = fault_sums false h not_zero (rw is at fits) refl
