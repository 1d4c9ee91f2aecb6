-- The places of lines that are remembered, and the loop over the lines with them.
use Rattle.crn_text.proofs.Prelude.{◌≡◌, ℕ, zero, suc, ◌+◌, ◌-◌, ◌<◌, ◌≤◌, List, [], ◌∷◌, ◌++◌, length, take, drop, get_or, set, Option, Some, None, Ok, Bor, sym, ap, subst, ◌∙◌, append_assoc, inl, inr, arith, true, false, Bool, ◌==◌, refl, ◌||◌, length-append, length-take, get_or-take, take_more, drop-append_seam, take-append_seam, IsIn, Net, in_left, in_right, in_at, all_from, all_set, eqb-true, ne_eqb, lines, before_comment, all_statements, own_fault, line_at, AreKnown, AreSound, SplitsAt, after_split, LineGives, Place}
use Rattle.std.proofs.Common.{not, if◌then◌else◌, take_while}
use Rattle.crn_text.proofs.LinesRead.{LinesUpTo, lines_more, none_own}
use Rattle.crn_text.proofs.Splits.{lines_after, lines_split}

-- ---- the places

known_more : (text : List ℕ) (read : List (List ℕ)) (line : List ℕ) (p : Place) → IsIn (line_at text p) ([] ∷ read) → IsIn (line_at text p) ([] ∷ (read ++ line ∷ []))
known_more text read line p (inl e) = inl e
known_more text read line p (inr i) = inr (in_left (line_at text p) read (line ∷ []) i)

-- after one more line
pub all_known_more : (text : List ℕ) (read : List (List ℕ)) (line : List ℕ) (ps : List Place) → AreKnown text read ps → AreKnown text (read ++ line ∷ []) ps
all_known_more text read line [] h = tt
all_known_more text read line (p ∷ ps) h = (known_more text read line p h.0, all_known_more text read line ps h.1)

-- after one more line, whose place is put among the others
pub known_put : (text : List ℕ) (read : List (List ℕ)) (line : List ℕ) (ps : List Place) (slot : ℕ) (p : Place) → line_at text p ≡ line → AreKnown text read ps → AreKnown text (read ++ line ∷ []) (set ps slot p)
known_put text read line ps slot p is h =
    all_set (λ q. IsIn (line_at text q) ([] ∷ (read ++ line ∷ []))) ps slot p (all_known_more text read line ps h) (inr (in_right (line_at text p) read (line ∷ []) (inl is)))

-- ---- the loop over the lines

-- what is left of the text is its end
abbrev pub Follows : List ℕ → Option (Bor (List ℕ)) → Type 0
Follows text None = Unit {0}
Follows text (Some rest) = (prefix : List ℕ) × (text ≡ prefix ++ rest.now)

-- the lines before those that are left are read, and some of them are remembered
pub record ReadsUpTo (text : List ℕ) (number : ℕ) (left : Option (Bor (List ℕ))) (net : Net) (places : List Place) : Type 0 where
  pub upto : LinesUpTo text number left net
  pub follows : Follows text left
  pub known : AreKnown text (take number (lines text)) places

pub sound_front : (text : List ℕ) (number : ℕ) (left : Option (Bor (List ℕ))) (net : Net) → LinesUpTo text number left net → AreSound (take number (lines text))
sound_front text number left net h =
    let ls = lines text in
    all_from (λ line. own_fault line ≡ None) (take number ls) (λ line i.
    let p = in_at line (take number ls) [] i in
    let lt : p.0 < number = let a = p.1 in omega (arith, a, length-take number ls) in
    let same : get_or ls p.0 [] ≡ line = sym (get_or-take number ls p.0 [] lt) ∙ p.2 in
    subst (λ (l : List ℕ). own_fault l ≡ None) same (none_own _ _ (h.sound p.0 lt)))

pub follows_size : (text : List ℕ) (rest : Bor (List ℕ)) → Follows text (Some rest) → length rest.now ≤ length text
follows_size text rest f = omega (arith, ap length f.1, length-append f.0 rest.now)

-- the line is where what is left begins
pub line_stands : (text line : List ℕ) (rest : Bor (List ℕ)) (next : Option (Bor (List ℕ))) → Follows text (Some rest) → SplitsAt 10 rest.now line next → take (length line) (drop (length text - length rest.now) text) ≡ line
line_stands text line rest next f split =
    let at : length text - length rest.now ≡ length f.0 = omega (arith, ap length f.1, length-append f.0 rest.now) in
    ap (λ (n : ℕ). take (length line) (drop n text)) at
    ∙ ap (λ (t : List ℕ). take (length line) (drop (length f.0) t)) f.1
    ∙ ap (take (length line)) (drop-append_seam f.0 rest.now)
    ∙ ap (take (length line)) split.whole
    ∙ take-append_seam line (after_split 10 next)

follows_on : (text line : List ℕ) (rest : Bor (List ℕ)) (next : Option (Bor (List ℕ))) → Follows text (Some rest) → SplitsAt 10 rest.now line next → Follows text next
follows_on text line rest None f split = tt
follows_on text line rest (Some r) f split =
    ((f.0 ++ line) ++ 10 ∷ [], f.1 ∙ ap (λ (t : List ℕ). f.0 ++ t) split.whole ∙ sym (append_assoc f.0 line (10 ∷ r.now)) ∙ sym (append_assoc (f.0 ++ line) (10 ∷ []) r.now))

first_here : {X : Type 0} (xs ys : List X) (x d : X) (n : ℕ) → drop n xs ≡ x ∷ ys → (n < length xs) × (get_or xs n d ≡ x)
first_here [] ys x d zero h = absurd cc
first_here [] ys x d (suc n) h = absurd cc
first_here (y ∷ xs) ys x d zero h = (omega arith, cc)
first_here (y ∷ xs) ys x d (suc n) h = let p = first_here xs ys x d n h in (omega (arith, p.0), p.1)

pub reads_more : (text line : List ℕ) (number : ℕ) (rest : Bor (List ℕ)) (next : Option (Bor (List ℕ))) (old new : Net) (done : Unit {0}) (ps qs : List Place) → ReadsUpTo text number (Some rest) old ps → SplitsAt 10 rest.now line next → LineGives (all_statements (take number (lines text))) line (Ok done) new → AreKnown text (take number (lines text) ++ line ∷ []) qs → ReadsUpTo text (number + 1) next new qs
reads_more text line number rest next old new done ps qs h split g known =
    let p = first_here (lines text) (lines_after next) line [] number (h.upto.after ∙ lines_split rest.now line next split) in
    let more : take (number + 1) (lines text) ≡ take number (lines text) ++ line ∷ [] = take_more (lines text) number [] p.0 ∙ ap (λ (l : List ℕ). take number (lines text) ++ l ∷ []) p.1 in
    record {
      upto = lines_more text line number rest next old new done h.upto split g;
      follows = follows_on text line rest next h.follows split;
      known = subst (λ (read : List (List ℕ)). AreKnown text read qs) (sym more) known;
    }

-- ---- a line that begins with a comment

body_first : (test : Bool) (n : ℕ) (bs : List ℕ) → 1 ≤ n → take_while (λ b. not (b == 35)) (if test then take n (35 ∷ bs) else (35 ∷ bs)) ≡ []
body_first true zero bs some = absurd (omega (arith, some))
body_first true (suc n) bs some = refl
body_first false n bs some = refl

comment_body : (bs : List ℕ) → before_comment (35 ∷ bs) ≡ []
comment_body [] = refl
comment_body (c ∷ cs) =
    let line : List ℕ = 35 ∷ c ∷ cs in
    body_first (get_or line (length line - 1) 0 == 13) (length line - 1) (c ∷ cs) (omega arith)

-- it has no body
pub bare_body : (line : List ℕ) → (length line == 0 || get_or line 0 0 == 35) ≡ true → length (before_comment line) ≡ 0
bare_body [] h = refl
bare_body (b ∷ bs) h =
    let some : (length (b ∷ bs) == 0) ≡ false = ne_eqb (length (b ∷ bs)) 0 (λ e. omega (arith, e)) in
    let e : b ≡ 35 = eqb-true b 35 (rw some at h) in
    ap length (ap (λ (c : ℕ). before_comment (c ∷ bs)) e ∙ comment_body bs)
