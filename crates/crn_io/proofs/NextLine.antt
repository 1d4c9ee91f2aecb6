-- What the bytes that are held say of the next line.
use Rattle.crn_io.proofs.Prelude.{◌≡◌, ℕ, ◌+◌, ◌-◌, ◌≤◌, ◌<◌, min, List, ◌∷◌, ◌++◌, length, take, drop, Some, ap, ◌∙◌, arith, length-append, length-take, take-take, drop-drop, MAX_LINE, MAX_AHEAD, MAX_DOCUMENT, IsLine, AreHeld, EndsAt, AreAsked}
use Rattle.std.proofs.lemmas.List.{length-drop}
use Rattle.crn_io.proofs.LineLists.{IsLine-take, at_end}

-- a prefix of a line has no LF either
prefix_of : (m n : ℕ) (xs : List ℕ) → m ≤ n → IsLine (take n xs) → IsLine (take m xs)
prefix_of m n xs le p = rw (← take-take m n xs le) (IsLine-take m (take n xs) p)

-- the bound of documents is before an LF, or at it
pub document_ends : (bytes new : List ℕ) (taken i : ℕ) → bytes ≡ new → EndsAt new (Some i) → MAX_DOCUMENT ≤ taken + min i MAX_LINE + 1
    → (n : ℕ) × (n ≤ MAX_LINE) × (n < length bytes) × IsLine (take n bytes) × (MAX_DOCUMENT ≤ taken + n + 1)
document_ends bytes new taken i is p long =
    (min i MAX_LINE, omega arith, rw is (omega (arith, p.0)), rw is (prefix_of (min i MAX_LINE) i new (omega arith) p.2), long)

-- the first LF is too late
pub line_ends : (bytes new : List ℕ) (i : ℕ) → bytes ≡ new → EndsAt new (Some i) → MAX_LINE < i → (MAX_LINE < length bytes) × IsLine (take (MAX_LINE + 1) bytes)
line_ends bytes new i is p long = (rw is (omega (arith, p.0)), rw is (prefix_of (MAX_LINE + 1) i new (omega arith) p.2))

-- no LF among as many bytes as are looked at, which reach the bound of documents
pub document_goes_on : (bytes new : List ℕ) (taken most : ℕ) → bytes ≡ new → most ≡ min (MAX_LINE + 1) (MAX_DOCUMENT - taken) → taken < MAX_DOCUMENT → IsLine new → most ≤ length new → MAX_DOCUMENT ≤ taken + MAX_LINE + 1
    → (n : ℕ) × (n ≤ MAX_LINE) × (n < length bytes) × IsLine (take n bytes) × (MAX_DOCUMENT ≤ taken + n + 1)
document_goes_on bytes new taken most is most_is within p many long =
    (MAX_DOCUMENT - taken - 1, omega arith, rw is (omega arith), rw is (IsLine-take (MAX_DOCUMENT - taken - 1) new p), omega arith)

-- no LF among as many bytes as are looked at, which do not reach it
pub line_goes_on : (bytes new : List ℕ) (taken most : ℕ) → bytes ≡ new → most ≡ min (MAX_LINE + 1) (MAX_DOCUMENT - taken) → IsLine new → most ≤ length new → taken + MAX_LINE + 1 < MAX_DOCUMENT
    → (MAX_LINE < length bytes) × IsLine (take (MAX_LINE + 1) bytes)
line_goes_on bytes new taken most is most_is p many short = (rw is (omega arith), rw is (IsLine-take (MAX_LINE + 1) new p))

-- the line, its LF and what is ahead
pub line_is : (bytes held : List ℕ) (from i : ℕ) → bytes ≡ drop from held → EndsAt (drop from held) (Some i) → bytes ≡ take i (drop from held) ++ 10 ∷ drop (from + (i + 1)) held
line_is bytes held from i is p =
    is ∙ at_end (drop from held) i p.0 p.1 ∙ ap (λ (t : List ℕ). take i (drop from held) ++ 10 ∷ t) (drop-drop (i + 1) from held)

pub line_length : (held : List ℕ) (from i : ℕ) → EndsAt (drop from held) (Some i) → length (take i (drop from held)) ≡ i
line_length held from i p = omega (arith, p.0, length-take i (drop from held))

pub ahead_length : (held : List ℕ) (from i most : ℕ) → EndsAt (drop from held) (Some i) → length (drop from held) ≤ i + most → length (drop (from + (i + 1)) held) < most
ahead_length held from i most p few =
    omega (arith, p.0, length-drop from held, length-drop (from + (i + 1)) held)

-- before the last pull the bytes that are held are the beginning of a line
pub asked : (bytes new : List ℕ) (taken most : ℕ) → bytes ≡ new → most ≡ min (MAX_LINE + 1) (MAX_DOCUMENT - taken) → AreHeld new most → AreAsked taken bytes
asked bytes new taken most is most_is p = (p.0, p.1, is ∙ p.2, (p.3, omega (arith, p.4), omega (arith, p.4)), p.5)

-- and so they are no more than one pull after the bound of documents
pub asked_few : (bytes new : List ℕ) (taken most : ℕ) → bytes ≡ new → most ≡ min (MAX_LINE + 1) (MAX_DOCUMENT - taken) → AreHeld new most → taken + length bytes ≤ MAX_DOCUMENT + MAX_AHEAD
asked_few bytes new taken most is most_is p = omega (arith, ap length is, ap length p.2, length-append p.0 p.1, p.4, p.5)
