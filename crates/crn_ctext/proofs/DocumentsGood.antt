-- A document is good if and only if it is read to its end: the built questions, both versions.
use Rattle.crn_ctext.proofs.Prelude.{◌≡◌, ◌<◌, ◌≤◌, ◌++◌, ℕ, List, [], ◌∷◌, length, refl, sym, ap, ap₂, subst, inl, inr, ◌∙◌, arith, ℤ, slice_index, AllByRecursion, AllZip, digits, IsIn, Net, IsNetwork, MAX_DOCUMENT, MAX_SHARED, beginning, Record, Gives, IsSettled, none_own, ReadOf, title, course, Share, FitsShare, cut_lists, IsNamed, written, IsShareable, AreFormed, AreValid, IsGoodLeaf, IsDocumentOf, document, document2, Verdict, Known, sizes_of, verdict_of, learn_of, verdicts_said, meaning, versions, built, Question, IsReadOf, IsGood, IsPrefixOf, ReadDocumentsAreGood}
use Rattle.crn_ctext.specs.Judged.{records_of}
use Rattle.crn_ctext.proofs.Settled.{HaveTitles, course_settled}
use Rattle.crn_ctext.proofs.MeaningDecided.{OfNetwork, meaning_decided}
use Rattle.crn_ctext.proofs.MeaningShort.{IsSmall, networks_are_small, meaning_short}
use Rattle.crn_ctext.proofs.ShortAnswers.{AllPlain, valid_are_plain, valid_are_formed, plain_are_short, short_both}
use Rattle.crn_ctext.proofs.ShortLines.{text_lines_are_short}
use Rattle.crn_ctext.proofs.Shared.{IsVersion, shared_written, all_texts}
use Rattle.crn_ctext.proofs.PrefixesSaid.{prefix_says}
use Rattle.crn_ctext.proofs.BlocksRead.{AreVersions, ArePrefixesOf}
use Rattle.crn_ctext.proofs.BlocksWritten.{all_of, parted, table_part}
use Rattle.crn_ctext.proofs.DocumentsWritten.{IsTable, text_of, document_is_read}
use Rattle.crn_ctext.proofs.DocumentTexts.{parted_first, parted_second, parted_cuts, parted_plain, written_alone, written_plain, table_plain}
use Rattle.crn_ctext.proofs.DocumentsRead.{Good, IsGoodBy, read_is_good}
use Rattle.crn_ctext.proofs.RecordsLinked.{records_answered}
use Rattle.crn_ctext.proofs.AnswersLinked.{answers_valid, records_valid}

are_versions : AreVersions versions
are_versions version (inl one) = inl one
are_versions version (inr (inl two)) = inr two
are_versions version (inr (inr none)) = absurd none

-- the titles of the two versions differ
titles_apart : title 1 ≡ title 2 → ⊥
unfolding digits
titles_apart e =
    let one : slice_index (title 1) 16 ≡ 49 = refl in
    let two : slice_index (title 2) 16 ≡ 50 = refl in
    let h : 49 ≡ 50 = sym one ∙ ap (λ (t : List ℕ). slice_index t 16) e ∙ two in omega (arith, h)

one_title : HaveTitles versions
one_title v w (inl a) (inl b) e = a ∙ sym b
one_title v w (inl a) (inr (inl b)) e = absurd (titles_apart (ap title (sym a) ∙ e ∙ ap title b))
one_title v w (inr (inl a)) (inl b) e = absurd (titles_apart (ap title (sym b) ∙ sym e ∙ ap title a))
one_title v w (inr (inl a)) (inr (inl b)) e = a ∙ sym b
one_title v w (inl a) (inr (inr none)) e = absurd none
one_title v w (inr (inl a)) (inr (inr none)) e = absurd none
one_title v w (inr (inr none)) b e = absurd none

pub settled : IsSettled none_own (course meaning versions built)
settled = course_settled none_own meaning OfNetwork versions built (λ net n. n) meaning_decided one_title

pub read_documents_are_good_by : (bytes : List ℕ) (read : ReadOf) → IsReadOf bytes read → IsGoodBy meaning versions built bytes read
read_documents_are_good_by bytes read p = read_is_good meaning IsSmall versions built are_versions meaning_short networks_are_small bytes read p.0 p.1

-- a document is good by its answers if and only if it is by their records
good_answered : (bytes : List ℕ) (g : Good meaning versions built bytes) → (good : IsGood bytes) × (good.net ≡ g.net) × (records_of good.net good.answers ≡ g.answers)
good_answered bytes g =
    let a = records_answered g.net g.answers (valid_are_formed meaning built (meaning.start g.net) g.answers g.valid) in
    let valid = subst (λ (rs : List (List Record)). AreValid meaning built (meaning.start g.net) rs) (sym a.2) g.valid in (
      record {
        short = g.short;
        net = g.net;
        network = g.network;
        answers = a.0;
        formed = a.1;
        valid = records_valid g.net a.0 a.1 valid;
        document = subst (λ (rs : List (List Record)). IsDocumentOf versions built g.net rs bytes) (sym a.2) g.document;
      },
      refl,
      a.2,
    )

good_recorded : (bytes : List ℕ) → IsGood bytes → Good meaning versions built bytes
good_recorded bytes g = record { short = g.short; net = g.net; network = g.network; answers = records_of g.net g.answers; valid = answers_valid g.net g.answers g.formed g.valid; document = g.document }

pub read_documents_are_good : (bytes : List ℕ) (read : ReadOf) → IsReadOf bytes read → IsGood bytes
read_documents_are_good bytes read p = (good_answered bytes (read_documents_are_good_by bytes read p).0).0

-- a text of a version is read, if its leaves fit
text_is_read : (version : ℕ) (table : List (List ℤ)) (leaf : List ℕ) (net : Net) (answers : List (List Record)) (bytes : List ℕ) → IsIn version versions → version ≤ 2 → IsVersion version table → length table ≤ MAX_SHARED → AllByRecursion IsShareable table
    → IsNetwork net → AllByRecursion AllPlain answers → AreValid meaning built (meaning.start net) answers → AllZip (IsNamed table) leaf (cut_lists (parted version built answers)) → length bytes < MAX_DOCUMENT
    → bytes ≡ text_of version net (table_part version table ++ written leaf (parted version built answers)) → (read : ReadOf) × IsReadOf bytes read
text_is_read version table leaf net answers bytes i low v few lists n plain valid named short is =
    let rs = parted version built answers in
    let ws = written leaf rs in
    let for = shared_written table leaf rs named in
    let ws_plain : AllPlain ws = written_plain table ws rs few (parted_plain version built answers plain) for in
    let ts = table_part version table in
    let ts_plain : AllPlain ts = table_plain version table few lists in
    let t : IsTable version table = record { version_is = v; most = few; lists = lists; short = plain_are_short ts ts_plain } in
    let lines = text_lines_are_short version net (ts ++ ws) low n (short_both ts ws ts_plain ws_plain) in
    let below : length (text_of version net (ts ++ ws)) < MAX_DOCUMENT = subst (λ (b : List ℕ). length b < MAX_DOCUMENT) is short in
    let r = document_is_read version table meaning versions built net answers ws i t n valid (all_texts table ws rs for (plain_are_short ws ws_plain)) lines below in
    (r.0, (r.1, subst (λ (b : List ℕ). Gives (course meaning versions built) (beginning b) r.0 r.1) (sym is) r.2))

-- without shared lists each leaf is written with its numbers
no_leaves : (us : List (List ℤ)) → (leaf : List ℕ) × AllZip (IsNamed []) leaf us
no_leaves [] = ([], tt)
no_leaves (u ∷ us) = let more = no_leaves us in (0 ∷ more.0, (tt, more.1))

recorded_documents_are_read : (bytes : List ℕ) → Good meaning versions built bytes → (read : ReadOf) × IsReadOf bytes read
recorded_documents_are_read bytes g = by g.document
  where
    plain : AllByRecursion AllPlain g.answers
    plain = valid_are_plain meaning IsSmall built (meaning.start g.net) g.answers meaning_short (networks_are_small g.net g.network) g.valid

    formed : AreFormed meaning built (meaning.start g.net) g.answers
    formed = valid_are_formed meaning built (meaning.start g.net) g.answers g.valid

    first : bytes ≡ document g.net g.answers → (read : ReadOf) × IsReadOf bytes read
    first is =
        let rs = parted 1 built g.answers in
        let named = no_leaves (cut_lists rs) in
        let alone : written named.0 rs ≡ all_of g.answers = written_alone [] (written named.0 rs) rs refl (shared_written [] named.0 rs named.1) ∙ parted_first meaning built (meaning.start g.net) g.answers formed in
        text_is_read 1 [] named.0 g.net g.answers bytes (inl refl) (omega arith) (inl (refl, refl)) (omega arith) tt g.network plain g.valid named.1 g.short (is ∙ ap (λ (ws : List Record). text_of 1 g.net ws) (sym alone))

    second : (share : Share) → FitsShare g.answers share → bytes ≡ document2 built g.net g.answers share → (read : ReadOf) × IsReadOf bytes read
    second share fits is =
        let table = share.table in
        let named : AllZip (IsNamed table) share.leaf (cut_lists (parted 2 built g.answers)) = subst (λ (us : List (List ℤ)). AllZip (IsNamed table) share.leaf us) (sym (parted_cuts 2 meaning built (meaning.start g.net) g.answers formed)) fits.leaves in
        text_is_read 2 table share.leaf g.net g.answers bytes (inr (inl refl)) (omega arith) (inr refl) fits.most fits.lists g.network plain g.valid named g.short
        (is ∙ ap (λ (rs : List Record). text_of 2 g.net (table_part 2 table ++ written share.leaf rs)) (sym (parted_second built g.answers)))

    by : IsDocumentOf versions built g.net g.answers bytes → (read : ReadOf) × IsReadOf bytes read
    by (inl one) = first one.1
    by (inr two) = second two.1.0 two.1.1 two.1.2

pub good_documents_are_read : (bytes : List ℕ) → IsGood bytes → (read : ReadOf) × IsReadOf bytes read
good_documents_are_read bytes g = recorded_documents_are_read bytes (good_recorded bytes g)

-- ---- what is read

-- the verdicts that the blocks say are those that the answers say
prefixes_say : (qs : List Question) (known : Known) (blocks answers : List (List Record)) → ArePrefixesOf meaning qs known blocks answers → verdicts_said qs known answers ≡ verdicts_said qs known blocks
unfolding ArePrefixesOf
prefixes_say [] known blocks answers z = refl
prefixes_say (q ∷ qs) known [] answers z = absurd z
prefixes_say (q ∷ qs) known (block ∷ blocks) [] z = absurd z
prefixes_say (q ∷ qs) known (block ∷ blocks) (rs ∷ more) z =
    let p = z.0 in
    let alone : verdict_of q (sizes_of known) p.head (p.rows ++ p.nodes) ≡ verdict_of q (sizes_of known) p.head p.rows = prefix_says IsGoodLeaf q known p.head p.rows p.nodes z.2 in
    let learns : learn_of q known p.head (p.rows ++ p.nodes) ≡ learn_of q known p.head p.rows = ap (λ (v : Verdict). record { net = known.net; earlier = known.earlier ++ (q, v) ∷ [] }) alone in
    ap (λ (t : List Record). verdicts_said (q ∷ qs) known (t ∷ more)) p.all
    ∙ ap₂ (λ (v : Verdict) (vs : List Verdict). v ∷ vs) alone (ap (λ (k : Known). verdicts_said qs k more) learns ∙ prefixes_say qs (learn_of q known p.head p.rows) blocks more z.3)
    ∙ sym (ap (λ (t : List Record). verdicts_said (q ∷ qs) known (t ∷ blocks)) z.1)

prefixes_are : (qs : List Question) (known : Known) (blocks answers : List (List Record)) → ArePrefixesOf meaning qs known blocks answers → AllZip IsPrefixOf blocks answers
unfolding ArePrefixesOf
prefixes_are [] known blocks answers z = subst (λ (bs : List (List Record)). AllZip IsPrefixOf bs answers) (sym z.0) (subst (λ (xs : List (List Record)). AllZip IsPrefixOf [] xs) (sym z.1) tt)
prefixes_are (q ∷ qs) known [] answers z = absurd z
prefixes_are (q ∷ qs) known (block ∷ blocks) [] z = absurd z
prefixes_are (q ∷ qs) known (block ∷ blocks) (rs ∷ more) z =
    let p = z.0 in
    ((p.nodes, p.all ∙ ap (λ (t : List Record). t ++ p.nodes) (sym z.1)), prefixes_are qs (learn_of q known p.head p.rows) blocks more z.3)

-- the network of a document that is read is the one that is read, and its answers are the blocks that are read but for the nodes of trees
pub read_is_of : ReadDocumentsAreGood
read_is_of bytes read p =
    let g = read_documents_are_good_by bytes read p in
    let a = good_answered bytes g.0 in (
      a.0,
      a.1 ∙ g.1,
      subst (λ (rs : List (List Record)). AllZip IsPrefixOf read.blocks rs) (sym a.2) (prefixes_are built (meaning.start read.net) read.blocks g.0.answers g.2),
      ap (λ (rs : List (List Record)). verdicts_said built (meaning.start read.net) rs) a.2 ∙ prefixes_say built (meaning.start read.net) read.blocks g.0.answers g.2,
    )
