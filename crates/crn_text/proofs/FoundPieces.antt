-- A text that is compared with the canonical text of a network, piece by piece.
use Rattle.crn_text.proofs.Prelude.{◌≡◌, ℕ, zero, suc, ◌+◌, ◌-◌, ◌<◌, ◌≤◌, ◌==◌, Bool, true, false, eqb, List, [], ◌∷◌, ◌++◌, length, get_or, set, take, drop, replicate, Option, Some, None, Bor, refl, sym, ap, subst, ◌∙◌, append_assoc, arith, take_all, codes, ◌↔◌, IsTrue, flat_map, MatchOption, pointwise, eqb-true, eq-eqb, Decides-eqb, strip_prefix_is, append-nil, append_cancel_left, length-append, take-append_seam, flat_map_step, flat_map_whole, Net, complex_text, reaction_line, canonical, Follows, IsPiece, AreFound, Piece}

-- ---- the pieces

pub none_found : (net : Net) (c n : ℕ) → AreFound net c (replicate n None)
none_found net c zero = tt
none_found net c (suc n) = (tt, none_found net (suc c) n)

pub found_at : (net : Net) (first k c : ℕ) (pieces : List (Option Piece)) → first + k ≡ c → AreFound net first pieces → IsPiece net c (get_or pieces k None)
found_at net first zero c [] e h = tt
found_at net first (suc k) c [] e h = tt
found_at net first zero c (x ∷ pieces) e h = let same : first ≡ c = omega (arith, e) in subst (λ (n : ℕ). IsPiece net n x) same h.0
found_at net first (suc k) c (x ∷ pieces) e h = found_at net (suc first) k c pieces (omega (arith, e)) h.1

pub found_put : (net : Net) (first k c : ℕ) (pieces : List (Option Piece)) (piece : Option Piece) → first + k ≡ c → AreFound net first pieces → IsPiece net c piece → AreFound net first (set pieces k piece)
found_put net first k c [] piece e h is = tt
found_put net first zero c (x ∷ pieces) piece e h is = let same : c ≡ first = omega (arith, e) in (subst (λ (n : ℕ). IsPiece net n piece) same is, h.1)
found_put net first (suc k) c (x ∷ pieces) piece e h is = (h.0, found_put net (suc first) k c pieces piece (omega (arith, e)) h.1 is)

-- ---- one piece after another

-- a piece and then another
pub follows_both : (p q text middle : List ℕ) (rest : Option (Bor (List ℕ))) → text ≡ p ++ middle → Follows q middle rest → Follows (p ++ q) text rest
follows_both p q text middle None e h = λ rest is. h rest (append_cancel_left p middle (q ++ rest) (sym e ∙ is ∙ append_assoc p q rest))
follows_both p q text middle (Some rest) e h = e ∙ ap (λ (t : List ℕ). p ++ t) h ∙ sym (append_assoc p q rest.now)

-- without the first piece there are not both
pub follows_neither : (p q text : List ℕ) → Follows p text None → Follows (p ++ q) text None
follows_neither p q text h = λ rest is. h (q ++ rest) (is ∙ append_assoc p q rest)

-- ---- one line after another

-- the text is these lines, and what is left of it
abbrev pub BeginsLines : Net → List ℕ → ℕ → List ℕ → Type 0
BeginsLines net text r left = text ≡ flat_map (reaction_line net) (take r net.reactions) ++ left

pub lines_go_on : (net : Net) (text left rest : List ℕ) (r : ℕ) → r < length net.reactions → BeginsLines net text r left → left ≡ reaction_line net (get_or net.reactions r (0, 0)) ++ rest → BeginsLines net text (r + 1) rest
lines_go_on net text left rest r lt before is =
    let done = flat_map (reaction_line net) (take r net.reactions) in
    before ∙ ap (λ (t : List ℕ). done ++ t) is ∙ sym (append_assoc done (reaction_line net (get_or net.reactions r (0, 0))) rest)
    ∙ ap (λ (t : List ℕ). t ++ rest) (sym (flat_map_step (reaction_line net) net.reactions r (0, 0) lt))

pub lines_break : (net : Net) (text left : List ℕ) (r : ℕ) → r < length net.reactions → BeginsLines net text r left → Follows (reaction_line net (get_or net.reactions r (0, 0))) left None → canonical net ≡ text → ⊥
lines_break net text left r lt before none is =
    let done = flat_map (reaction_line net) (take r net.reactions) in
    let line = reaction_line net (get_or net.reactions r (0, 0)) in
    let more = flat_map (reaction_line net) (drop (suc r) net.reactions) in
    none more (append_cancel_left done left (line ++ more) (sym before ∙ sym is ∙ flat_map_whole (reaction_line net) net.reactions r (0, 0) lt ∙ append_assoc done line more))

-- ---- what a call that strips a prefix answers

pub strips : (text piece p : List ℕ) (r : Option (Bor (List ℕ))) → piece ≡ p → MatchOption r (pointwise eqb (take (length piece) text) piece ≡ false) (λ x. (pointwise eqb (take (length piece) text) piece ≡ true) × (x.now ≡ drop (length piece) text) × (length x.now + length piece ≡ length text)) → Follows p text r
strips text piece p None e h = λ rest is. strip_prefix_is Decides-eqb text piece None h rest (is ∙ ap (λ (t : List ℕ). t ++ rest) (sym e))
strips text piece p (Some x) e h = strip_prefix_is Decides-eqb text piece (Some x) h ∙ ap (λ (t : List ℕ). t ++ x.now) e

-- what is before the rest
pub piece_is : (text p rest : List ℕ) → text ≡ p ++ rest → take (length text - length rest) text ≡ p
piece_is text p rest e =
    let long : length text - length rest ≡ length p = omega (arith, ap length e, length-append p rest) in
    ap (λ (n : ℕ). take n text) long ∙ ap (take (length p)) e ∙ take-append_seam p rest

-- ---- a line, piece by piece

-- the text without its first three pieces
three : (y arrow z text a b e : List ℕ) → text ≡ y ++ a → a ≡ arrow ++ b → b ≡ z ++ e → text ≡ ((y ++ arrow) ++ z) ++ e
three y arrow z text a b e p q r =
    p ∙ ap (λ (t : List ℕ). y ++ t) q ∙ sym (append_assoc y arrow b) ∙ ap (λ (t : List ℕ). (y ++ arrow) ++ t) r ∙ sym (append_assoc (y ++ arrow) z e)

pub line_ends : (net : Net) (r : ℕ × ℕ) (text a b e : List ℕ) (rest : Option (Bor (List ℕ))) → text ≡ complex_text net r.0 ++ a → a ≡ codes " -> " ++ b → b ≡ complex_text net r.1 ++ e → Follows (codes "\n") e rest → Follows (reaction_line net r) text rest
line_ends net r text a b e rest p q k h =
    follows_both ((complex_text net r.0 ++ codes " -> ") ++ complex_text net r.1) (codes "\n") text e rest (three (complex_text net r.0) (codes " -> ") (complex_text net r.1) text a b e p q k) h

pub line_lacks_product : (net : Net) (r : ℕ × ℕ) (text a b : List ℕ) → text ≡ complex_text net r.0 ++ a → a ≡ codes " -> " ++ b → Follows (complex_text net r.1) b None → Follows (reaction_line net r) text None
line_lacks_product net r text a b p q h =
    let start = complex_text net r.0 ++ codes " -> " in
    follows_neither (start ++ complex_text net r.1) (codes "\n") text
    (follows_both start (complex_text net r.1) text b None (p ∙ ap (λ (t : List ℕ). complex_text net r.0 ++ t) q ∙ sym (append_assoc (complex_text net r.0) (codes " -> ") b)) h)

pub line_lacks_arrow : (net : Net) (r : ℕ × ℕ) (text a : List ℕ) → text ≡ complex_text net r.0 ++ a → Follows (codes " -> ") a None → Follows (reaction_line net r) text None
line_lacks_arrow net r text a p h =
    let start = complex_text net r.0 ++ codes " -> " in
    follows_neither (start ++ complex_text net r.1) (codes "\n") text (follows_neither start (complex_text net r.1) text (follows_both (complex_text net r.0) (codes " -> ") text a None p h))

nothing : (xs : List ℕ) → length xs ≡ 0 → xs ≡ []
nothing [] e = refl
nothing (x ∷ xs) e = absurd (omega arith)

-- after all lines nothing is left if and only if the text is the canonical one
pub lines_end : (net : Net) (text left : List ℕ) (r : ℕ) (result : Bool) → length net.reactions ≤ r → BeginsLines net text r left → result ≡ (length left == 0) → IsTrue result ↔ (canonical net ≡ text)
lines_end net text left r result le before e =
    let all = take_all r net.reactions le in
    let whole : text ≡ canonical net ++ left = before ∙ ap (λ (rs : List (ℕ × ℕ)). flat_map (reaction_line net) rs ++ left) all in (
      λ t. sym (whole ∙ ap (λ (l : List ℕ). canonical net ++ l) (nothing left (eqb-true (length left) 0 (sym e ∙ t))) ∙ append-nil (canonical net)),
      λ is. e ∙ eq-eqb (length left) 0 (ap length (append_cancel_left (canonical net) left [] (sym whole ∙ sym is ∙ sym (append-nil (canonical net))))),
    )
