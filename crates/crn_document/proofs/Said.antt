-- What the blocks of a document say is what is known after them.
use Rattle.crn_document.proofs.Prelude.{◌≡◌, ◌+◌, ◌++◌, ◌∙◌, ℕ, false, List, [], ◌∷◌, length, map, refl, sym, ap, append_assoc, ℤ, append-nil, map-append, Place, Net, gives_parts, Verdict, built, Earlier, Question, Record, section_form, heads, Course, Give, ◌>>=◌, Gives, AfterBlocks, asks, asks_all, asks_block, asks_blocks, asks_trees, after_sections, below, claims, has_tree, sections, Known, learn_of, meaning, sizes_of, verdict_of, verdicts_said, after_at, end_course, head_course, rows_course}
use Rattle.crn_document.proofs.Sections.{question_course}

give_is : {A : Type 0} (x y : A) (at end : Place) → Gives (Give x) at y end → x ≡ y
unfolding Gives
give_is x y at end p = p.0

-- the verdicts, in order
abbrev verdicts_of : Earlier → List Verdict
verdicts_of es = map (λ e. e.1) es

-- it is after this block
abbrev IsAfterBlock : Question → AfterBlocks Known → Record → List Record → AfterBlocks Known → Type 0
IsAfterBlock q at h rs y = (y.known ≡ learn_of q at.known h rs) × (y.blocks ≡ at.blocks ++ (h ∷ rs) ∷ [])

-- after this block, at this line
abbrev after : Question → AfterBlocks Known → Record → List Record → ℕ → AfterBlocks Known
after q at h rs line = record {
  known = meaning.learn q at.known h rs;
  by_tree = has_tree (meaning.problems q at.known h);
  line = line;
  blocks = at.blocks ++ (h ∷ rs) ∷ [];
}

is_after : (q : Question) (at y : AfterBlocks Known) (h : Record) (rs : List Record) (line : ℕ) → after q at h rs line ≡ y → IsAfterBlock q at h rs y
is_after q at y h rs line is = (ap (λ (z : AfterBlocks Known). z.known) (sym is), ap (λ (z : AfterBlocks Known). z.blocks) (sym is))

block_adds : (version : ℕ) (table : List (List ℤ)) (q : Question) (at y : AfterBlocks Known) (place rest : Place)
    → Gives (asks_block meaning version table q at) place y rest → (h : Record) × (rs : List Record) × IsAfterBlock q at h rs y
block_adds version table q at y place rest p =
    let head = gives_parts (asks version at.line at.by_tree (heads q (sizes_of at.known))) (λ h. head_course version table q at h) place rest y p in
    let h = head.0 in
    let tests = gives_parts (claims at.line (meaning.head_claims q at.known h)) (λ x. rows_course version table q at h) head.1 rest y head.3 in
    let rows = gives_parts (asks_all version (at.line + 1) false (below q (meaning.shapes at.known) h)) (λ rs. end_course version table q at h rs) tests.1 rest y tests.3 in
    let rs = rows.0 in
    let end : Course (AfterBlocks Known) = asks_trees version table (meaning.problems q at.known h) (at.line + 1 + length rs) >>= (λ line. Give (after q at h rs line)) in
    let more = gives_parts (claims at.line (meaning.row_claims q at.known h rs)) (λ x. end) rows.1 rest y rows.3 in
    let trees = gives_parts (asks_trees version table (meaning.problems q at.known h) (at.line + 1 + length rs)) (λ line. Give (after q at h rs line)) more.1 rest y more.3 in
    (h, rs, is_after q at y h rs trees.0 (give_is (after q at h rs trees.0) y trees.1 rest trees.3))

-- lines that open sections leave what is known and read
sections_known : (opened : List Record) (at : AfterBlocks Known) → (after_sections opened at).known ≡ at.known
sections_known [] at = refl
sections_known (r ∷ rs) at = refl

sections_blocks : (opened : List Record) (at : AfterBlocks Known) → (after_sections opened at).blocks ≡ at.blocks
sections_blocks [] at = refl
sections_blocks (r ∷ rs) at = refl

known_after : (q : Question) (at mid : AfterBlocks Known) (opened : List Record) (h : Record) (rs : List Record) → mid.known ≡ learn_of q (after_sections opened at).known h rs → mid.known ≡ learn_of q at.known h rs
known_after q at mid opened h rs is = is ∙ ap (λ (k : Known). learn_of q k h rs) (sections_known opened at)

blocks_after : (q : Question) (at mid : AfterBlocks Known) (opened : List Record) (h : Record) (rs : List Record) → mid.blocks ≡ (after_sections opened at).blocks ++ (h ∷ rs) ∷ [] → mid.blocks ≡ at.blocks ++ (h ∷ rs) ∷ []
blocks_after q at mid opened h rs is = is ∙ ap (λ (bs : List (List Record)). bs ++ (h ∷ rs) ∷ []) (sections_blocks opened at)

-- what is known after these blocks is what was known before, and what these say
abbrev Say : List Question → AfterBlocks Known → AfterBlocks Known → List (List Record) → Type 0
Say qs at y new = (y.blocks ≡ at.blocks ++ new) × (y.known.net ≡ at.known.net)
    × (map (λ e. e.1) y.known.earlier ≡ map (λ e. e.1) at.known.earlier ++ verdicts_said qs at.known new)

say_none : (at y : AfterBlocks Known) → at ≡ y → Say [] at y []
say_none at y is = (
  ap (λ (z : AfterBlocks Known). z.blocks) (sym is) ∙ sym (append-nil at.blocks),
  ap (λ (z : AfterBlocks Known). z.known.net) (sym is),
  ap (λ (z : AfterBlocks Known). verdicts_of z.known.earlier) (sym is) ∙ sym (append-nil (verdicts_of at.known.earlier)),
)

-- one block more
say_then : (q : Question) (qs : List Question) (at mid y : AfterBlocks Known) (h : Record) (rs : List Record) (new : List (List Record))
    → mid.known ≡ learn_of q at.known h rs → mid.blocks ≡ at.blocks ++ (h ∷ rs) ∷ [] → Say qs mid y new → Say (q ∷ qs) at y ((h ∷ rs) ∷ new)
say_then q qs at mid y h rs new known blocks s =
    let v = verdict_of q (sizes_of at.known) h rs in
    let old = verdicts_of at.known.earlier in
    let said = verdicts_said qs (learn_of q at.known h rs) new in (
      s.0 ∙ ap (λ (b : List (List Record)). b ++ new) blocks ∙ append_assoc at.blocks ((h ∷ rs) ∷ []) new,
      s.1 ∙ ap (λ (k : Known). k.net) known,
      s.2 ∙ ap (λ (k : Known). verdicts_of k.earlier ++ verdicts_said qs k new) known
          ∙ ap (λ (vs : List Verdict). vs ++ said) (map-append (λ (e : Question × Verdict). e.1) at.known.earlier ((q, v) ∷ []))
          ∙ append_assoc old (v ∷ []) said,
    )

-- The verdicts that are known after the blocks of these questions are those known before and those that the blocks say.
pub blocks_say : (version : ℕ) (table : List (List ℤ)) (qs : List Question) (at y : AfterBlocks Known) (place end : Place)
    → Gives (asks_blocks meaning version table qs at) place y end
    → (new : List (List Record)) × (y.blocks ≡ at.blocks ++ new) × (y.known.net ≡ at.known.net)
    × (map (λ e. e.1) y.known.earlier ≡ map (λ e. e.1) at.known.earlier ++ verdicts_said qs at.known new)
unfolding asks_blocks
blocks_say version table [] at y place end p = let s = say_none at y (give_is at y place end p) in ([], s.0, s.1, s.2)
blocks_say version table (q ∷ qs) at y place end p =
    let o = gives_parts (asks_all version at.line at.by_tree (map section_form (sections version q))) (question_course version table q qs at) place end y p in
    let here : AfterBlocks Known = after_sections o.0 at in
    let b = gives_parts (asks_block meaning version table q here) (λ mid. asks_blocks meaning version table qs mid) o.1 end y o.3 in
    let mid = b.0 in
    let added = block_adds version table q here mid o.1 b.1 b.2 in
    let h = added.0 in
    let rs = added.1 in
    let rest = blocks_say version table qs mid y b.1 end b.3 in
    let s = say_then q qs at mid y h rs rest.0 (known_after q at mid o.0 h rs added.2.0) (blocks_after q at mid o.0 h rs added.2.1) (rest.1, rest.2, rest.3) in
    ((h ∷ rs) ∷ rest.0, s.0, s.1, s.2)

-- The verdicts that are known after all blocks of a document are those that its blocks say.
pub built_blocks_say : (version : ℕ) (table : List (List ℤ)) (net : Net) (line : ℕ) (y : AfterBlocks Known) (place end : Place)
    → Gives (asks_blocks meaning version table built (after_at net [] line [])) place y end
    → map (λ e. e.1) y.known.earlier ≡ verdicts_said built (meaning.start net) y.blocks
built_blocks_say version table net line y place end p =
    let s = blocks_say version table built (after_at net [] line []) y place end p in
    s.3 ∙ ap (λ (new : List (List Record)). verdicts_said built (meaning.start net) new) (sym s.1)
