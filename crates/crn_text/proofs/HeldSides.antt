-- Sides that were read before, where they come again.
use Rattle.crn_text.proofs.Prelude.{◌≡◌, ℕ, ◌+◌, ◌-◌, ◌%◌, ◌^◌, ◌≤◌, true, false, List, [], ◌∷◌, ◌++◌, length, get_or, take, take_all, drop, map, refl, sym, ap, ap₂, subst, ◌∙◌, append_assoc, arith, AllByRecursion, prefix_len, append-nil, take-append-drop, length-drop, length-take-le, length-map, take_more, IsName, amount_in, MAX_AMOUNT, MAX_TEXT, name_at, side_of, IsTerm, Term, Token, tokens, is_blank, terms_of, sides_fault, OccursIn, ReadsTerms, moved, IsTrimmed}
use Rattle.std.proofs.Common.{length-append}
use Rattle.std.specs.Prelude.{None}
use Rattle.crn_text.proofs.Apart.{EndsBefore, tokens_apart}
use Rattle.crn_text.proofs.QuickPlaces.{blank_no_name, all_blank}
use Rattle.crn_text.proofs.Terms.{occurs_first, occurs_last, piece_at}
use Rattle.crn_text.proofs.Tokens.{tokens_skip}

-- ---- blanks at the end

blank_last : (xs : List ℕ) (b : ℕ) → is_blank b ≡ true → tokens (xs ++ b ∷ []) ≡ tokens xs
blank_last xs b h =
    let ends : EndsBefore xs b = record {
      name = blank_no_name b h;
      arrow = λ is last. absurd (let e = rw is at h in cc);
      both = λ is last. absurd (let e = rw is at h in cc);
    } in
    tokens_apart xs b [] ends ∙ ap (λ (ws : List Token). tokens xs ++ ws) (all_blank (b ∷ []) (rw h cc)) ∙ append-nil (tokens xs)

pub trimmed_none : (text : List ℕ) → IsTrimmed text text
trimmed_none text = record { rest = []; whole = sym (append-nil text); same = refl }

trimmed_more : (text left prefix : List ℕ) (b : ℕ) → IsTrimmed text left → left ≡ prefix ++ b ∷ [] → is_blank b ≡ true → IsTrimmed text prefix
trimmed_more text left prefix b h is blank = record {
  rest = b ∷ h.rest;
  whole = h.whole ∙ ap (λ (t : List ℕ). t ++ h.rest) is ∙ append_assoc prefix (b ∷ []) h.rest;
  same = sym (blank_last prefix b blank) ∙ ap tokens (sym is) ∙ h.same;
}

-- without its last byte, which is a blank
pub trimmed_last : (text left : List ℕ) → 1 ≤ length left → IsTrimmed text left → is_blank (get_or left (length left - 1) 0) ≡ true → IsTrimmed text (take (length left - 1) left)
trimmed_last text left some h blank =
    let last : take (length left - 1 + 1) left ≡ take (length left - 1) left ++ get_or left (length left - 1) 0 ∷ [] = take_more left (length left - 1) 0 (omega arith) in
    let whole : take (length left - 1 + 1) left ≡ left = take_all (length left - 1 + 1) left (omega arith) in
    trimmed_more text left (take (length left - 1) left) (get_or left (length left - 1) 0) h (sym whole ∙ last) blank

-- ---- the terms where the side comes again

occurs_end : (body piece : List ℕ) (end : ℕ) → OccursIn body piece end → end ≤ length body
occurs_end body piece end h = rw h.is (simp length-append (omega (arith, h.ends)))

moved_there : (body piece : List ℕ) (end start : ℕ) (t : Term) → length body ≤ MAX_TEXT → OccursIn body piece end → start + length piece ≡ end → IsTerm piece t → (name_at body (moved start t) ≡ name_at piece t) × ((t.at + start) % 2 ^ 32 + t.length ≤ length body)
moved_there body piece end start t short occurs starts term =
    let rest = drop t.at piece in
    let name = take t.length rest in
    let inside = term.inside in
    let long : length rest ≡ length piece - t.at = length-drop t.at piece in
    let size : length name ≡ t.length = length-take-le t.length rest (omega arith) in
    let in_rest : OccursIn body rest end = occurs_last body piece (take t.at piece) rest end occurs (sym (take-append-drop t.at piece)) in
    let in_name : OccursIn body name (end - length rest + length name) = occurs_first body rest name (drop t.length rest) end in_rest (sym (take-append-drop t.length rest)) in
    let there = piece_at body name (end - length rest + length name) (t.at + start) in_name (omega arith) in
    let last = there.1 in
    let fits : (t.at + start) % 2 ^ 32 ≡ t.at + start = omega arith in
    (ap₂ (λ (n k : ℕ). take n (drop k body)) (sym size) fits ∙ there.0, omega arith)

side_moved : (body piece : List ℕ) (end start : ℕ) (terms : List Term) → length body ≤ MAX_TEXT → OccursIn body piece end → start + length piece ≡ end → AllByRecursion (IsTerm piece) terms
    → (side_of body (map (λ t. moved start t) terms) ≡ side_of piece terms) × AllByRecursion (IsTerm body) (map (λ t. moved start t) terms)
side_moved body piece end start [] short occurs starts h = (refl, tt)
side_moved body piece end start (t ∷ terms) short occurs starts h =
    let m = moved_there body piece end start t short occurs starts h.0 in
    let more = side_moved body piece end start terms short occurs starts h.1 in
    (ap₂ (λ (n : List ℕ) (r : List (List ℕ × ℕ)). (n, t.count) ∷ r) m.0 more.0, (record { inside = m.1; name = subst IsName (sym m.0) h.0.name; some = h.0.some }, more.1))

-- ---- a side and its piece without blanks

-- the piece of a side without the blanks before it and after it
pub piece_same : (side rest piece : List ℕ) → rest ≡ drop (prefix_len is_blank side) side → IsTrimmed rest piece → tokens piece ≡ tokens side
piece_same side rest piece is trimmed = trimmed.same ∙ ap tokens is ∙ sym (tokens_skip side)

pub rest_occurs_in : (body side rest : List ℕ) (end : ℕ) → OccursIn body side end → rest ≡ drop (prefix_len is_blank side) side → OccursIn body rest end
rest_occurs_in body side rest end occurs is = subst (λ (t : List ℕ). OccursIn body t end) (sym is) (occurs_last body side (take (prefix_len is_blank side) side) (drop (prefix_len is_blank side) side) end occurs (sym (take-append-drop (prefix_len is_blank side) side)))

-- where a side begins
pub starts_inside : (body side rest : List ℕ) (end : ℕ) → OccursIn body side end → rest ≡ drop (prefix_len is_blank side) side → (length rest ≤ end) × (end ≤ length body)
starts_inside body side rest end occurs is =
    let h = rest_occurs_in body side rest end occurs is in
    let ends = h.ends in
    (omega arith, occurs_end body rest end h)

pub reads_again : (body side rest piece : List ℕ) (end start : ℕ) (known terms : List Term) → length body ≤ MAX_TEXT → OccursIn body side end → rest ≡ drop (prefix_len is_blank side) side → IsTrimmed rest piece → start ≡ end - length rest
    → ReadsTerms piece piece known true → terms ≡ map (λ t. moved start t) known → ReadsTerms body side terms true
reads_again body side rest piece end start known terms short occurs is trimmed from h put =
    let same = piece_same side rest piece is trimmed in
    let in_rest = rest_occurs_in body side rest end occurs is in
    let before = in_rest.ends in
    let in_piece : OccursIn body piece (end - length rest + length piece) = occurs_first body rest piece trimmed.rest end in_rest trimmed.whole in
    let m = side_moved body piece (end - length rest + length piece) start known short in_piece (omega arith) h.1.each in
    let few = h.1.few in
    let count = length-map known (λ t. moved start t) in
    subst (λ (ts : List Term). ReadsTerms body side ts true) (sym put) (
      subst (λ (ws : List Token). sides_fault (ws ∷ []) ≡ None) same h.0,
      record { each = m.1; amounts = λ name. subst (λ (s : List (List ℕ × ℕ)). amount_in s name ≤ MAX_AMOUNT) (sym m.0) (h.1.amounts name); few = omega arith },
      m.0 ∙ h.2 ∙ ap terms_of same,
    )

pub fails_again : (body side rest piece : List ℕ) (known terms : List Term) → rest ≡ drop (prefix_len is_blank side) side → IsTrimmed rest piece → ReadsTerms piece piece known false → ReadsTerms body side terms false
fails_again body side rest piece known terms is trimmed h = λ none. h (subst (λ (ws : List Token). sides_fault (ws ∷ []) ≡ None) (sym (piece_same side rest piece is trimmed)) none)
