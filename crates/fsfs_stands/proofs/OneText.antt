-- A look prints one text at most, and where a failure stops it a first part of that.
use Rattle.std.proofs.Common.{◌≡◌, ℕ, Bool, suc, List, [], ◌∷◌, ◌++◌, Ok, Err, refl, sym, ap, subst, ◌∙◌, append_assoc, inl, inr}
use Rattle.std.specs.Prelude.{◌≢◌, codes, replicate}
use Rattle.fsfs_base.specs.Paths.{PathName, Path}
use Rattle.fsfs_base.specs.declared.kind.Kind.{Kind}
use Rattle.fsfs_base.specs.declared.kind.Kind.TheVariants.{File, Dir}
use Rattle.fsfs_revision.specs.Told.{RevisionBytes}
use Rattle.fsfs_tree.specs.Answers.{last_name, kind_mark}
use Rattle.fsfs_noderev.specs.declared.node_rev.NodeRev.{NodeRev}
use Rattle.fsfs_revision.specs.declared.wrong.Wrong.{Wrong}
use Rattle.fsfs_revision.specs.Shows.Reading.{DirEntry, EntriesOf, OfEntry, Met, Stands, Lacking, Blocked}
use Rattle.fsfs_revision.proofs.OneAnswer.{ok_same, ok_no_err, err_same}
use Rattle.fsfs_revision.proofs.OneEntry.{entries_one}
use Rattle.fsfs_revision.proofs.OneWalk.{text_one, of_entry_one, met_at_one}
use Rattle.fsfs_stands.specs.declared.look_fault.LookFault.TheVariants as faults
use Rattle.fsfs_stands.specs.Texts.{End, Whole, Refused, Stopped, Nothing, AtPath}
use Rattle.fsfs_stands.specs.TreeTexts.{IsLine, NodeText, OfFile, OfDir, OfWrongDir, EntryText, OfNode, OfWrong, Stops, EntriesText, OfNone, OfLast, OfNext, MetText}
use Rattle.fsfs_stands.specs.FileTexts.{KindText, MetFileText}
use Rattle.fsfs_stands.specs.Agreeing.{IsFront, Agree, HasOneText, TreesHaveOneText, FilesHaveOneText}
use Rattle.fsfs_stands.proofs.OneIdText.{shown_id_one}

-- ---- two texts that agree

whole_not_stopped : {A : Type 0} → Whole ≡ Stopped → A
whole_not_stopped e = absurd cc

no_text_front : (a b : List ℕ) → a ≡ [] → IsFront a b
no_text_front a b none = (b, sym (ap (λ (t : List ℕ). t ++ b) none))

front_longer : (a b rest : List ℕ) → IsFront a b → IsFront a (b ++ rest)
front_longer a b rest front = (front.0 ++ rest, ap (λ (t : List ℕ). t ++ rest) front.1 ∙ append_assoc a front.0 rest)

pub front_behind : (line a b : List ℕ) → IsFront a b → IsFront (line ++ a) (line ++ b)
front_behind line a b front = (front.0, ap (λ (t : List ℕ). line ++ t) front.1 ∙ sym (append_assoc line a front.0))

-- behind one first part
pub agree_behind : (line a b : List ℕ) (e f : End) → Agree a e b f → Agree (line ++ a) e (line ++ b) f
agree_behind line a b e f (inl same) = inl (ap (λ (t : List ℕ). line ++ t) same.0, same.1)
agree_behind line a b e f (inr (inl front)) = inr (inl (front.0, front_behind line a b front.1))
agree_behind line a b e f (inr (inr front)) = inr (inr (front.0, front_behind line b a front.1))

pub wholes_same : (a b : List ℕ) → Agree a Whole b Whole → a ≡ b
wholes_same a b (inl same) = same.0
wholes_same a b (inr (inl front)) = whole_not_stopped front.0
wholes_same a b (inr (inr front)) = whole_not_stopped front.0

-- what isn't whole against something whole and more
pub agree_more : (a b rest : List ℕ) (e f : End) → e ≢ Whole → Agree a e b Whole → Agree a e (b ++ rest) f
agree_more a b rest e f more (inl same) = absurd (more same.1)
agree_more a b rest e f more (inr (inl front)) = inr (inl (front.0, front_longer a b rest front.1))
agree_more a b rest e f more (inr (inr front)) = whole_not_stopped front.0

pub agree_less : (a rest b : List ℕ) (e f : End) → f ≢ Whole → Agree a Whole b f → Agree (a ++ rest) e b f
agree_less a rest b e f more (inl same) = absurd (more (sym same.1))
agree_less a rest b e f more (inr (inl front)) = whole_not_stopped front.0
agree_less a rest b e f more (inr (inr front)) = inr (inr (front.0, front_longer b a rest front.1))

pub stopped_first : (a b : List ℕ) (e f : End) → Nothing Stopped a e → Agree a e b f
stopped_first a b e f none = inr (inl (none.1, no_text_front a b none.0))

pub stopped_second : (a b : List ℕ) (e f : End) → Nothing Stopped b f → Agree a e b f
stopped_second a b e f none = inr (inr (none.1, no_text_front b a none.0))

pub nothing_one : (why : End) → HasOneText (Nothing why)
nothing_one why a b e f g h = inl (g.0 ∙ sym h.0, g.1 ∙ sym h.1)

pub wrong_same : (v w : Wrong) → v ≡ w → Refused (faults.Wrong v) ≡ Refused (faults.Wrong w)
wrong_same v w e = ap (λ (x : Wrong). Refused (faults.Wrong x)) e

no_file_dir : {A : Type 0} (k : Kind) → k ≡ File → k ≡ Dir → A
no_file_dir k e f = let g = sym e ∙ f in absurd cc

-- ---- lines

line_one : (ids : Bool) (level : ℕ) (name : PathName) (v : NodeRev) (a b : List ℕ) → IsLine ids level name v a → IsLine ids level name v b → a ≡ b
line_one ids level name v a b g h =
    g.line_is ∙ ap (λ (t : List ℕ). replicate level 32 ++ name ++ kind_mark v.kind ++ t ++ codes "\n") (shown_id_one ids v.id g.shown_id h.shown_id g.id_is h.id_is) ∙ sym h.line_is

-- ---- trees

module _ (look : RevisionBytes) (ids : Bool) where
  -- a file's line against another text of it
  file_agrees : (level : ℕ) (name : PathName) (v : NodeRev) (line : List ℕ) → IsLine ids level name v line → v.kind ≡ File → (b : List ℕ) (f : End) → NodeText look ids level name v b f → Agree line Whole b f
  file_agrees level name v line is kind b f (OfFile _ _ _ other its _) = inl (line_one ids level name v line other is its, refl)
  file_agrees level name v line is kind b f (OfDir _ _ _ other entries text end its dir _ _) = no_file_dir v.kind kind dir
  file_agrees level name v line is kind b f (OfWrongDir _ _ _ other w its dir _) = no_file_dir v.kind kind dir

  -- a directory's against another, where the texts of its entries agree
  dir_agrees : (level : ℕ) (name : PathName) (v : NodeRev) (line : List ℕ) (entries : List DirEntry) (text : List ℕ) (end : End) → IsLine ids level name v line → v.kind ≡ Dir → EntriesOf look v (Ok entries)
      → ((b : List ℕ) (f : End) → EntriesText look ids (suc level) entries b f → Agree text end b f) → (b : List ℕ) (f : End) → NodeText look ids level name v b f → Agree (line ++ text) end b f
  dir_agrees level name v line entries text end is kind read each b f (OfFile _ _ _ other its file) = no_file_dir v.kind file kind
  dir_agrees level name v line entries text end is kind read each b f (OfDir _ _ _ other below more stop its _ reads texts) =
      let same = ok_same below entries (entries_one look v (Ok below) (Ok entries) reads read) in
      let agree = agree_behind line text more end stop (each more stop (subst (λ (es : List DirEntry). EntriesText look ids (suc level) es more stop) same texts)) in
      subst (λ (l : List ℕ). Agree (line ++ text) end (l ++ more) stop) (line_one ids level name v line other is its) agree
  dir_agrees level name v line entries text end is kind read each b f (OfWrongDir _ _ _ other w its _ wrong) = ok_no_err entries w (entries_one look v (Ok entries) (Err w) read wrong)

  wrong_dir_agrees : (level : ℕ) (name : PathName) (v : NodeRev) (line : List ℕ) (w : Wrong) → IsLine ids level name v line → v.kind ≡ Dir → EntriesOf look v (Err w)
      → (b : List ℕ) (f : End) → NodeText look ids level name v b f → Agree line (Refused (faults.Wrong w)) b f
  wrong_dir_agrees level name v line w is kind wrong b f (OfFile _ _ _ other its file) = no_file_dir v.kind file kind
  wrong_dir_agrees level name v line w is kind wrong b f (OfDir _ _ _ other entries text end its _ read _) = ok_no_err entries w (entries_one look v (Ok entries) (Err w) read wrong)
  wrong_dir_agrees level name v line w is kind wrong b f (OfWrongDir _ _ _ other x its _ also) =
      inl (line_one ids level name v line other is its, wrong_same w x (err_same w x (entries_one look v (Err w) (Err x) wrong also)))

  -- the node of an entry
  entry_agrees : (level : ℕ) (entry : DirEntry) (v : NodeRev) (text : List ℕ) (end : End) → OfEntry look entry (Ok v)
      → ((b : List ℕ) (f : End) → NodeText look ids level entry.name v b f → Agree text end b f) → (b : List ℕ) (f : End) → EntryText look ids level entry b f → Agree text end b f
  entry_agrees level entry v text end read each b f (OfNode _ _ u _ _ reads other) =
      let same = ok_same u v (of_entry_one look entry (Ok u) (Ok v) reads read) in
      each b f (subst (λ (n : NodeRev). NodeText look ids level entry.name n b f) same other)
  entry_agrees level entry v text end read each b f (OfWrong _ _ w wrong) = ok_no_err v w (of_entry_one look entry (Ok v) (Err w) read wrong)
  entry_agrees level entry v text end read each b f (Stops _ _) = stopped_second text [] end Stopped (refl, refl)

  wrong_entry_agrees : (level : ℕ) (entry : DirEntry) (w : Wrong) → OfEntry look entry (Err w) → (b : List ℕ) (f : End) → EntryText look ids level entry b f → Agree [] (Refused (faults.Wrong w)) b f
  wrong_entry_agrees level entry w wrong b f (OfNode _ _ v _ _ read _) = ok_no_err v w (of_entry_one look entry (Ok v) (Err w) read wrong)
  wrong_entry_agrees level entry w wrong b f (OfWrong _ _ x also) = inl (refl, wrong_same w x (err_same w x (of_entry_one look entry (Err w) (Err x) wrong also)))
  wrong_entry_agrees level entry w wrong b f (Stops _ _) = stopped_second [] [] (Refused (faults.Wrong w)) Stopped (refl, refl)

  -- entries
  none_agrees : (level : ℕ) (b : List ℕ) (f : End) → EntriesText look ids level [] b f → Agree [] Whole b f
  none_agrees level b f (OfNone _) = inl (refl, refl)

  last_agrees : (level : ℕ) (entry : DirEntry) (entries : List DirEntry) (text : List ℕ) (end : End) → end ≢ Whole → ((b : List ℕ) (f : End) → EntryText look ids level entry b f → Agree text end b f)
      → (b : List ℕ) (f : End) → EntriesText look ids level (entry ∷ entries) b f → Agree text end b f
  last_agrees level entry entries text end more each b f (OfLast _ _ _ _ _ other _) = each b f other
  last_agrees level entry entries text end more each b f (OfNext _ _ _ first rest _ other _) = agree_more text first rest end f more (each first Whole other)

  next_agrees : (level : ℕ) (entry : DirEntry) (entries : List DirEntry) (text rest : List ℕ) (end : End) → ((b : List ℕ) (f : End) → EntryText look ids level entry b f → Agree text Whole b f)
      → ((b : List ℕ) (f : End) → EntriesText look ids level entries b f → Agree rest end b f) → (b : List ℕ) (f : End) → EntriesText look ids level (entry ∷ entries) b f → Agree (text ++ rest) end b f
  next_agrees level entry entries text rest end each behind b f (OfLast _ _ _ _ _ other less) = agree_less text rest b end f less (each b f other)
  next_agrees level entry entries text rest end each behind b f (OfNext _ _ _ first more _ other others) =
      let same = wholes_same text first (each first Whole other) in
      subst (λ (t : List ℕ). Agree (text ++ rest) end (t ++ more) f) same (agree_behind text rest more end f (behind more f others))

  mutual
    node_one : (level : ℕ) (name : PathName) (v : NodeRev) (a : List ℕ) (e : End) → NodeText look ids level name v a e → (b : List ℕ) (f : End) → NodeText look ids level name v b f → Agree a e b f
    node_one level name v a e (OfFile _ _ _ line is kind) b f other = file_agrees level name v line is kind b f other
    node_one level name v a e (OfDir _ _ _ line entries text end is kind read texts) b f other =
        dir_agrees level name v line entries text end is kind read (λ c g h. entries_one_text (suc level) entries text end texts c g h) b f other
    node_one level name v a e (OfWrongDir _ _ _ line w is kind wrong) b f other = wrong_dir_agrees level name v line w is kind wrong b f other

    entry_one_text : (level : ℕ) (entry : DirEntry) (a : List ℕ) (e : End) → EntryText look ids level entry a e → (b : List ℕ) (f : End) → EntryText look ids level entry b f → Agree a e b f
    entry_one_text level entry a e (OfNode _ _ v text end read node) b f other = entry_agrees level entry v text end read (λ c g h. node_one level entry.name v text end node c g h) b f other
    entry_one_text level entry a e (OfWrong _ _ w wrong) b f other = wrong_entry_agrees level entry w wrong b f other
    entry_one_text level entry a e (Stops _ _) b f other = stopped_first [] b Stopped f (refl, refl)

    entries_one_text : (level : ℕ) (entries : List DirEntry) (a : List ℕ) (e : End) → EntriesText look ids level entries a e → (b : List ℕ) (f : End) → EntriesText look ids level entries b f → Agree a e b f
    entries_one_text level entries a e (OfNone _) b f other = none_agrees level b f other
    entries_one_text level entries a e (OfLast _ entry behind text end first less) b f other =
        last_agrees level entry behind text end less (λ c g h. entry_one_text level entry text end first c g h) b f other
    entries_one_text level entries a e (OfNext _ entry behind text rest end first others) b f other =
        next_agrees level entry behind text rest end (λ c g h. entry_one_text level entry text Whole first c g h) (λ c g h. entries_one_text level behind rest end others c g h) b f other

-- ---- what is met at a path

pub at_path_one : (look : RevisionBytes) (rev : ℕ) (path : Path) (R : Met → List ℕ → End → Type 0) → ((met : Met) → HasOneText (R met)) → HasOneText (AtPath look rev path R)
at_path_one look rev path R each a b e f (inl none) h = stopped_first a b e f none
at_path_one look rev path R each a b e f (inr g) (inl none) = stopped_second a b e f none
at_path_one look rev path R each a b e f (inr (inl g)) (inr (inl h)) =
    let same = wrong_same g.0 h.0 (err_same g.0 h.0 (met_at_one look rev path (Err g.0) (Err h.0) g.1 h.1)) in
    inl (g.2.0 ∙ sym h.2.0, g.2.1 ∙ same ∙ sym h.2.1)
at_path_one look rev path R each a b e f (inr (inl g)) (inr (inr h)) = ok_no_err h.0 g.0 (met_at_one look rev path (Ok h.0) (Err g.0) h.1 g.1)
at_path_one look rev path R each a b e f (inr (inr g)) (inr (inl h)) = ok_no_err g.0 h.0 (met_at_one look rev path (Ok g.0) (Err h.0) g.1 h.1)
at_path_one look rev path R each a b e f (inr (inr g)) (inr (inr h)) =
    let same = ok_same h.0 g.0 (met_at_one look rev path (Ok h.0) (Ok g.0) h.1 g.1) in
    each g.0 a b e f g.2 (subst (λ (met : Met). R met b f) same h.2)

met_text_one : (look : RevisionBytes) (ids : Bool) (path : Path) (met : Met) → HasOneText (MetText look ids path met)
met_text_one look ids path (Stands v) a b e f g h = node_one look ids 0 (last_name path) v a e g b f h
met_text_one look ids path (Lacking names) a b e f g h = nothing_one (Refused (faults.NotFound names)) a b e f g h
met_text_one look ids path (Blocked names) a b e f g h = nothing_one (Refused (faults.NotDir names)) a b e f g h

pub tree_one : TreesHaveOneText
tree_one look rev path ids = at_path_one look rev path (MetText look ids path) (met_text_one look ids path)

-- ---- files

kind_text_one : (look : RevisionBytes) (v : NodeRev) (kind : Kind) → HasOneText (KindText look v kind)
kind_text_one look v Dir a b e f g h = nothing_one (Refused faults.NotFile) a b e f g h
kind_text_one look v File a b e f (inl none) h = stopped_first a b e f none
kind_text_one look v File a b e f (inr g) (inl none) = stopped_second a b e f none
kind_text_one look v File a b e f (inr (inl g)) (inr (inl h)) = inl (ok_same a b (text_one look v (Ok a) (Ok b) g.0 h.0), g.1 ∙ sym h.1)
kind_text_one look v File a b e f (inr (inl g)) (inr (inr h)) = ok_no_err a h.0 (text_one look v (Ok a) (Err h.0) g.0 h.1)
kind_text_one look v File a b e f (inr (inr g)) (inr (inl h)) = ok_no_err b g.0 (text_one look v (Ok b) (Err g.0) h.0 g.1)
kind_text_one look v File a b e f (inr (inr g)) (inr (inr h)) =
    let same = wrong_same g.0 h.0 (err_same g.0 h.0 (text_one look v (Err g.0) (Err h.0) g.1 h.1)) in
    inl (g.2.0 ∙ sym h.2.0, g.2.1 ∙ same ∙ sym h.2.1)

met_file_text_one : (look : RevisionBytes) (met : Met) → HasOneText (MetFileText look met)
met_file_text_one look (Stands v) a b e f g h = kind_text_one look v v.kind a b e f g h
met_file_text_one look (Lacking names) a b e f g h = nothing_one (Refused (faults.NotFound names)) a b e f g h
met_file_text_one look (Blocked names) a b e f g h = nothing_one (Refused (faults.NotDir names)) a b e f g h

pub file_one : FilesHaveOneText
file_one look rev path = at_path_one look rev path (MetFileText look) (met_file_text_one look)
