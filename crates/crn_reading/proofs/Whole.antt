-- A whole text, from its first line to its end, and what the answer says of it.
use Rattle.crn_reading.proofs.Prelude.{◌≡◌, ◌∙◌, ◌⊎◌, ℕ, List, [], refl, subst, ap, inl, inr, Option, Some, None, Result, Ok, Err, SourceSeen, Rose, Place, beginning, Course, Gives, FailsFirst, IsSettled, Awaits, StepFails, StepAwaits, StepEnds, first_is_one, gives_one, gives_or_fails, Reading, CheckStop, IsNew, LastIs, IsTextOf, ReadingGives, AnswersWith, IsAnsweredBy}
use Rattle.crn_reading.specs.declared.fault.CheckStop.TheVariants as stop
use Rattle.crn_reading.proofs.Texts.{text_awaits, text_fails, text_gives, text_stops}

from_first : (P : ℕ → Type 0) (at : Reading) → IsNew at → P at.line → P 1
from_first P at new p = subst P new.line p

-- what a whole text answers
pub text_read : {A T : Type 0} (c : Course A) (Says : T → A → Type 0) (result : Result T CheckStop) (at : Reading) (before now : SourceSeen) → IsNew at → Awaits c (beginning []) → LastIs c Says result at before now → ReadingGives c Says result before now
text_read c Says (Ok t) at before now new first p =
    let ends = p.2.0 in
    let step = from_first (λ n. StepEnds c p.0 n ends.0 at.lines ends.1 before.left now.left) at new ends.2 in
    let t = text_gives c p.0 ends.0 at.lines ends.1 before now new.ahead new.taken step p.2.2 in
    record { text = t.0; read = t.1; none = p.2.1; given = p.0; says = p.1; after = t.2.0; gives = t.2.1 }
text_read c Says (Err (stop.Rejected code line)) at before now new first p =
    let step = from_first (λ n. StepFails c n at.lines before.left now.left line code) at new p.0 in
    let t = text_fails c at.lines before now line code new.ahead new.taken first step p.1 in
    record { text = t.0; read = t.1; fault = t.2; near = t.3 }
text_read c Says (Err stop.Failed) at before now new first p =
    let step = from_first (λ n. StepAwaits c n at.lines before.left now.left) at new p.0 in
    let t = text_awaits c at.lines before now new.ahead new.taken step in
    (t.0, t.1, p.1, p.2)
text_read c Says (Err stop.NoMemory) at before now new first p = (text_stops at.lines before now new.ahead new.taken p.0, p.1)

-- the text is the one that the source shows
same_text : (left : Option (List ℕ)) (pulled text other : List ℕ) → left ≡ Some text → IsTextOf left pulled other → other ≡ text
same_text None pulled text other is p = absurd cc
same_text (Some bytes) pulled text other is p = let same : bytes ≡ text = cc in p ∙ same

-- what the course gives is answered
given_answered : {A T : Type 0} (own : ℕ → Type 0) (c : Course A) (Says : T → A → Type 0) → IsSettled own c → (result : Result T CheckStop) (before now : SourceSeen) → ReadingGives c Says result before now
    → (text : List ℕ) (y : A) (after : Place) → before.left ≡ Some text → (Rose before.faults now.faults → ⊥) → Gives c (beginning text) y after → AnswersWith Says result y ⊎ (result ≡ Err stop.NoMemory)
given_answered own c Says settled (Ok t) before now p text y after is quiet good =
    let r = p.read in
    let same : p.text ≡ text = same_text before.left r.pulled text p.text is r.is in
    let mine : Gives c (beginning text) p.given p.after = subst (λ (t : List ℕ). Gives c (beginning t) p.given p.after) same p.gives in
    let one = gives_one own c settled (beginning text) p.after after p.given y mine good in
    inl (subst (Says t) one.0 p.says)
given_answered own c Says settled (Err (stop.Rejected code line)) before now p text y after is quiet good =
    let r = p.read in
    let same : p.text ≡ text = same_text before.left r.pulled text p.text is r.is in
    absurd (gives_or_fails own c settled (beginning text) after y line code good (subst (λ (t : List ℕ). FailsFirst c (beginning t) line code) same p.fault))
given_answered own c Says settled (Err stop.Failed) before now p text y after is quiet good = absurd (quiet p.2)
given_answered own c Says settled (Err stop.NoMemory) before now p text y after is quiet good = inr refl

-- and so is its first fault
fault_answered : {A T : Type 0} (own : ℕ → Type 0) (c : Course A) (Says : T → A → Type 0) → IsSettled own c → (result : Result T CheckStop) (before now : SourceSeen) → ReadingGives c Says result before now
    → (text : List ℕ) (line code : ℕ) → before.left ≡ Some text → (Rose before.faults now.faults → ⊥) → FailsFirst c (beginning text) line code → (result ≡ Err (stop.Rejected code line)) ⊎ (result ≡ Err stop.NoMemory)
fault_answered own c Says settled (Ok t) before now p text line code is quiet fault =
    let r = p.read in
    let same : p.text ≡ text = same_text before.left r.pulled text p.text is r.is in
    absurd (gives_or_fails own c settled (beginning text) p.after p.given line code (subst (λ (t : List ℕ). Gives c (beginning t) p.given p.after) same p.gives) fault)
fault_answered own c Says settled (Err (stop.Rejected k l)) before now p text line code is quiet fault =
    let r = p.read in
    let same : p.text ≡ text = same_text before.left r.pulled text p.text is r.is in
    let one = first_is_one own c settled (beginning text) l line k code (subst (λ (t : List ℕ). FailsFirst c (beginning t) l k) same p.fault) fault in
    inl (ap (λ (k : ℕ). Err (stop.Rejected k l)) one.1 ∙ ap (λ (k : ℕ). Err (stop.Rejected code k)) one.0)
fault_answered own c Says settled (Err stop.Failed) before now p text line code is quiet fault = absurd (quiet p.2)
fault_answered own c Says settled (Err stop.NoMemory) before now p text line code is quiet fault = inr refl

-- each text is answered by what it is
pub text_answered : {A T : Type 0} (own : ℕ → Type 0) (c : Course A) (Says : T → A → Type 0) → IsSettled own c → (result : Result T CheckStop) (before now : SourceSeen) → ReadingGives c Says result before now → IsAnsweredBy c Says result before now
text_answered own c Says settled result before now p = record { good = given_answered own c Says settled result before now p; fault = fault_answered own c Says settled result before now p }
