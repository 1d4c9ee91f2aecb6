-- Steps up to the end of a document, and its parts after the network.
use Rattle.crn_document.proofs.Prelude.{◌≡◌, ◌+◌, ◌++◌, ◌∙◌, ℕ, Bool, false, List, [], length, map, refl, sym, subst, ap, Result, ℤ, SourceSeen, place, Net, built, Verdict, Earlier, Record, Course, ◌>>=◌, AfterBlocks, ReadOf, asks_blocks, asks_table, lists_of, Known, meaning, verdicts_said, StepGives, Reading, CheckStop, IsAfter, after_at, after_by, IsSaidIn, rest_course, last_course, EndStepIs, LastIs, asks_end, last_is, last_then}
use Rattle.crn_document.proofs.Said.{built_blocks_say}

-- what follows the shared lists
abbrev pub after_table : (version line : ℕ) → Net → List Record → Course ReadOf
after_table version line net table = asks_blocks meaning version (lists_of table) built (after_at net [] (line + length table) []) >>= (λ after.
    last_course version net after)

-- the blocks begin where nothing is known but the network
pub blocks_begin : (P : Course (AfterBlocks Known) → Type 0) (version v line l : ℕ) (table : List (List ℤ)) (net : Net) (earlier : Earlier) (by_tree : Bool) → v ≡ version → l ≡ line → earlier ≡ [] → by_tree ≡ false
    → P (asks_blocks meaning v table built (after_by net earlier by_tree l [])) → P (asks_blocks meaning version table built (after_at net [] line []))
blocks_begin P version v line l table net earlier by_tree same here none first p =
    subst (λ (w : ℕ). P (asks_blocks meaning w table built (after_at net [] line []))) same
    (subst (λ (k : ℕ). P (asks_blocks meaning v table built (after_at net [] k []))) here
    (subst (λ (e : Earlier). P (asks_blocks meaning v table built (after_at net e l []))) none
    (subst (λ (b : Bool). P (asks_blocks meaning v table built (after_by net earlier b l []))) first p)))

-- what follows the blocks
end_after : (version : ℕ) (net : Net) (earlier : Earlier) (by_tree : Bool) (verdicts : List Verdict) (y : AfterBlocks Known) (result : Result (Unit {0}) CheckStop) (last : Reading) (more now : SourceSeen)
    → last.version ≡ version → IsAfter net earlier by_tree last.line y → verdicts ≡ verdicts_said built (meaning.start net) y.blocks
    → ((read : ReadOf) → EndStepIs (asks_end last.version last.line by_tree read) read result last more now)
    → LastIs (last_course version net y) (λ t read. IsSaidIn net verdicts read) result last more now
end_after version net earlier by_tree verdicts y result last more now same after said ends =
    let blocks = after.0 in
    let read : ReadOf = record { net = net; blocks = blocks } in
    let says : IsSaidIn net verdicts read = (blocks, refl, said ∙ ap (λ (z : AfterBlocks Known). verdicts_said built (meaning.start net) z.blocks) after.1) in
    subst (λ (z : AfterBlocks Known). LastIs (last_course version net z) (λ t r. IsSaidIn net verdicts r) result last more now) (sym after.1)
    (last_is (asks_end version last.line by_tree read) read (λ t r. IsSaidIn net verdicts r) result last more now (λ t. says)
    (subst (λ (v : ℕ). EndStepIs (asks_end v last.line by_tree read) read result last more now) same (ends read)))

-- the shared lists, the blocks and the end
pub parts_end : (net : Net) (earlier : Earlier) (by_tree : Bool) (verdicts : List Verdict) (rs : List Record) (y : AfterBlocks Known) (result : Result (Unit {0}) CheckStop) (old mid last : Reading) (before between more now : SourceSeen)
    → last.version ≡ old.version → verdicts ≡ map (λ e. e.1) earlier
    → StepGives (asks_table old.version old.line) rs old.line mid.line old.lines mid.lines before.left between.left → between.faults ≡ before.faults
    → IsAfter net earlier by_tree last.line y
    → StepGives (asks_blocks meaning old.version (lists_of rs) built (after_at net [] (old.line + length rs) [])) y mid.line last.line mid.lines last.lines between.left more.left → more.faults ≡ between.faults
    → ((read : ReadOf) → EndStepIs (asks_end last.version last.line by_tree read) read result last more now)
    → LastIs (rest_course old.version old.line net) (λ t read. IsSaidIn net verdicts read) result old before now
parts_end net earlier by_tree verdicts rs y result old mid last before between more now version kept p same after b quiet ends =
    let blocks_said = built_blocks_say old.version (lists_of rs) net (old.line + length rs) y (place mid.line mid.lines (b.pulled ++ [])) (place last.line last.lines []) in
    let said : map (λ e. e.1) y.known.earlier ≡ verdicts_said built (meaning.start net) y.blocks = blocks_said (let g = b.gives in g []) in
    let all : verdicts ≡ verdicts_said built (meaning.start net) y.blocks = kept ∙ ap (λ (z : AfterBlocks Known). map (λ e. e.1) z.known.earlier) (sym after.1) ∙ said in
    last_then (asks_table old.version old.line) (after_table old.version old.line net) rs (λ t read. IsSaidIn net verdicts read) result old mid before between now p same
    (last_then (asks_blocks meaning old.version (lists_of rs) built (after_at net [] (old.line + length rs) [])) (λ end. last_course old.version net end) y (λ t read. IsSaidIn net verdicts read) result mid last between more now b quiet
    (end_after old.version net earlier by_tree verdicts y result last more now version after all ends))
