-- What a transaction kept of its base it kept with kind and source, and with its properties where it didn't set them.
use Rattle.std.proofs.Common.{◌≡◌, true, false, not, ◌++◌, List, [], ◌∷◌, refl, sym, ◌∙◌, ap, subst, inl, inr, ◌⊎◌, Option, Some, None}
use Rattle.std.proofs.lemmas.Bool.{and_from, cases_Bool, false_from_ne_true, both_ways}
use Rattle.std.specs.Prelude.{is_some}
use mathlib.Core.Bool.{false≢true}
use Rattle.fsfs_model.specs.declared.flat.mark.What.{What}
use Rattle.fsfs_model.specs.declared.flat.mark.What.TheVariants.{Make, Gone, Text, Prop}
use Rattle.fsfs_model.specs.declared.flat.mark.Mark.{Mark}
use Rattle.fsfs_model.specs.declared.flat.mark.Effects.{Effects}
use Rattle.fsfs_base.specs.Paths.{Path, covers, same_path}
use Rattle.fsfs_tree.specs.Nodes.{Node, TreeFunction}
use Rattle.fsfs_model.specs.Flat.Edits.{is_file_node}
use Rattle.fsfs_model.specs.Flat.Marks.{outer, made, made_after, effects, any_covers, is_make, changes_props}
use Rattle.fsfs_base.proofs.PathLemmas.{covers-refl, covers-trans, same_path-is}
use Rattle.fsfs_model.specs.Laws.{In}
use Rattle.fsfs_model.proofs.Bases.{IsClosed, DescribesBase}
use Rattle.fsfs_model.proofs.Tests.{found, found_in}
use Rattle.fsfs_model.proofs.MergeWalk.{gone_by, gone_from, gone_down, gone_make}
use Rattle.fsfs_model.proofs.Owns.{In-left, In-right, In-filtered, made_push, make_adds, longer, in_outer, from_outer, new_outer, gone_stays, in_base}

-- m is what is left of the base's node n
pub record IsKept (d : Effects) (n m : Node) : Type 0 where
  pub kind : m.kind ≡ n.kind
  pub source : m.source ≡ n.source
  pub properties : d.props_changed ≡ false → m.properties ≡ n.properties

pub record KeepsContent (base t : TreeFunction) (marks : List Mark) : Type 0 where
  pub same : (p : Path) (n : Node) → base p ≡ Some n → (effects marks p).deleted ≡ false → (m : Node) × (t p ≡ Some m) × IsKept (effects marks p) n m
  -- a text was put at a file
  pub files : (m : Mark) → In (outer marks) m → m.what ≡ Text → is_file_node (base m.path) ≡ true
  -- what stands where the base's node was taken away was made
  pub again : (p : Path) → (effects marks p).deleted ≡ true → is_some (t p) ≡ true → any_covers (made marks) p ≡ true

pub kept_all : (t : TreeFunction) → KeepsContent t t []
kept_all t = record {
  same = λ p n e h. (n, e, record { kind = refl; source = refl; properties = λ _. refl });
  files = λ m i. absurd i;
  again = λ p h. absurd (false≢true h);
}

text_make : (k : What) → k ≡ Text → is_make k ≡ true → ⊥
text_make k e f = false≢true (sym (ap is_make e) ∙ f)

gone_text : Gone ≡ Text → ⊥
gone_text e = cc

gone_prop : Gone ≡ Prop → ⊥
gone_prop e = cc

sets_props : (k : What) (p q : Path) → k ≡ Prop → covers p q ≡ true → covers q p ≡ true → changes_props k p q ≡ true
sets_props Prop p q e c d = and_from _ _ c d
sets_props Text p q e c d = cc
sets_props Gone p q e c d = cc
sets_props (Make src) p q e c d = cc

file_is : (o u : Option Node) (n m : Node) → o ≡ Some n → u ≡ Some m → m.kind ≡ n.kind → is_file_node u ≡ true → is_file_node o ≡ true
file_is o u n m e f k h = ap is_file_node e ∙ sym (ap is_file_node (ap (λ v. Some (record n { kind = v })) k)) ∙ sym (same m n k) ∙ sym (ap is_file_node f) ∙ h
  where
    same : (m n : Node) → m.kind ≡ n.kind → is_file_node (Some m) ≡ is_file_node (Some (record n { kind = m.kind }))
    same m n k = refl

module _ (base t u : TreeFunction) (marks : List Mark) (m : Mark) (cb : IsClosed base) (ct : IsClosed t) (is : DescribesBase base t marks) (keeps : KeepsContent base t marks) where
  abbrev pub after : List Mark
  after = longer base t u marks m cb ct is

  deleted_was : (p : Path) → (effects after p).deleted ≡ false → (effects marks p).deleted ≡ false
  deleted_was p h = false_from_ne_true _ (λ k. both_ways _ h (gone_stays base t u marks m cb ct is p k))

  props_stay : (p : Path) → (effects marks p).props_changed ≡ true → (effects after p).props_changed ≡ true
  props_stay p h =
      let f = found (λ x. changes_props x.what x.path p) (outer marks) h in
      found_in (λ x. changes_props x.what x.path p) (outer after) f.0 (in_outer base t u marks m cb ct is f.0 f.1) f.2

  kept_on : (p : Path) (n x : Node) → IsKept (effects marks p) n x → IsKept (effects after p) n x
  kept_on p n x k = record { kind = k.kind; source = k.source; properties = λ h. k.properties (false_from_ne_true _ (λ w. both_ways _ h (props_stay p w))) }

  left_alone : (p : Path) (n : Node) → base p ≡ Some n → (effects after p).deleted ≡ false → u p ≡ t p → (x : Node) × (u p ≡ Some x) × IsKept (effects after p) n x
  left_alone p n e del same = let k = keeps.same p n e (deleted_was p del) in (k.0, same ∙ k.1, kept_on p n k.0 k.2)

  -- what is kept of the base is below nothing made
  not_made : (p : Path) (n : Node) → base p ≡ Some n → (effects marks p).deleted ≡ false → any_covers (made marks) p ≡ false
  not_made p n e del = false_from_ne_true _ (λ h. let f = found (λ v. covers v p) (made marks) h in elim (is.new f.0 f.1) [
    | inl none ↦ both_ways _ none (cb f.0 p f.2 (ap is_some e))
    | inr g ↦ both_ways _ del (gone_down marks f.0 p f.2 g)
  ])

  pub gone_back : (p : Path) → (m.what ≡ Gone → covers m.path p ≡ true → ⊥) → (effects after p).deleted ≡ true → (effects marks p).deleted ≡ true
  gone_back p n h = let g = gone_by after p h in elim (from_outer base t u marks m cb ct is g.0 g.1) [
    | inl w ↦ gone_from marks g.0 p w g.2 g.3
    | inr w ↦ absurd (n (ap (λ v. v.what) w.0 ∙ g.2) (subst (λ v. covers v.path p ≡ true) (sym w.0) g.3))
  ]

  still_files : (m.what ≡ Text → is_file_node (t m.path) ≡ true) → (x : Mark) → In (outer after) x → x.what ≡ Text → is_file_node (base x.path) ≡ true
  still_files file x i e = elim (from_outer base t u marks m cb ct is x i) [
    | inl w ↦ keeps.files x w e
    | inr w ↦ subst (λ v. is_file_node (base v.path) ≡ true) w.0 (here w.1 (file (ap (λ v. v.what) w.0 ∙ e)) (base m.path) refl)
  ]
    where
      there : is_file_node (t m.path) ≡ true → is_some (t m.path) ≡ true
      there h = by (t m.path) h
        where
          by : (o : Option Node) → is_file_node o ≡ true → is_some o ≡ true
          by None h = h
          by (Some n) h = refl

      here : any_covers (made marks) m.path ≡ false → is_file_node (t m.path) ≡ true → (o : Option Node) → base m.path ≡ o → is_file_node (base m.path) ≡ true
      here out h None e = absurd (both_ways _ (ap is_some e) (in_base base t u marks m cb ct is m.path (there h) out))
      here out h (Some n) e =
          let del : (effects marks m.path).deleted ≡ false = false_from_ne_true _ (λ k. both_ways _ out (keeps.again m.path k (there h))) in
          let k = keeps.same m.path n e del in
          file_is (base m.path) (t m.path) n k.0 e k.1 k.2.kind h

  pub put_content : is_make m.what ≡ true → is_some (t m.path) ≡ false → ((q : Path) → covers m.path q ≡ false → u q ≡ t q) → KeepsContent base u after
  put_content mk none out = record {
    same = λ p n e del. left_alone p n e del (out p (false_from_ne_true _ (λ h. (let k = keeps.same p n e (deleted_was p del) in both_ways _ none (ct m.path p h (ap is_some k.1))))));
    files = still_files (λ e. absurd (text_make m.what e mk));
    again = λ p h some. elim (cases_Bool (covers m.path p)) [
      | inl below ↦ found_in (λ v. covers v p) (made after) m.path (subst (λ v. In v m.path) (sym at) (In-right (made marks) (m.path ∷ []) m.path (inl refl))) below
      | inr beside ↦
          let f = found (λ v. covers v p) (made marks) (keeps.again p (gone_back p (λ e. absurd (gone_make m.what e mk)) h) (sym (ap is_some (out p beside)) ∙ some)) in
          found_in (λ v. covers v p) (made after) f.0 (subst (λ v. In v f.0) (sym at) (In-left (made marks) (m.path ∷ []) f.0 f.1)) f.2
    ];
  }
    where
      at : made after ≡ made marks ++ m.path ∷ []
      at = made_push [] marks m ∙ make_adds (made marks) m.what m.path mk

  pub taken_content : m.what ≡ Gone → ((q : Path) → covers m.path q ≡ true → is_some (u q) ≡ false) → ((q : Path) → covers m.path q ≡ false → u q ≡ t q) → KeepsContent base u after
  taken_content gone none out = record {
    same = λ p n e del. left_alone p n e del (out p (false_from_ne_true _ (λ h. elim (cases_Bool (any_covers (made marks) m.path)) [
      | inr outermost ↦ both_ways _ del (gone_from after m p (new_outer base t u marks m cb ct is outermost) gone h)
      | inl inner ↦ (let f = found (λ v. covers v m.path) (made marks) inner in
          both_ways _ (not_made p n e (deleted_was p del)) (found_in (λ v. covers v p) (made marks) f.0 f.1 (covers-trans f.0 m.path p f.2 h)))
    ])));
    files = still_files (λ e. absurd (gone_text (sym gone ∙ e)));
    again = λ p h some.
        let beside : covers m.path p ≡ false = false_from_ne_true _ (λ w. both_ways _ (none p w) some) in
        let f = found (λ v. covers v p) (made marks) (keeps.again p (gone_back p (λ e w. both_ways _ beside w) h) (sym (ap is_some (out p beside)) ∙ some)) in
        let free : not (covers m.path f.0) ≡ true = ap not (false_from_ne_true _ (λ w. both_ways _ beside (covers-trans m.path f.0 p w f.2))) in
        found_in (λ v. covers v p) (made after) f.0 (subst (λ v. In v f.0) (sym at) (In-filtered (λ v. not (covers m.path v)) (made marks) f.0 f.1 free)) f.2;
  }
    where
      at : made after ≡ made_after (made marks) Gone m.path
      at = made_push [] marks m ∙ ap (λ k. made_after (made marks) k m.path) gone

  pub changed_content : (m.what ≡ Text) ⊎ (m.what ≡ Prop) → (m.what ≡ Text → is_file_node (t m.path) ≡ true) → ((q : Path) → same_path q m.path ≡ false → u q ≡ t q)
      → ((x : Node) → t m.path ≡ Some x → (y : Node) × (u m.path ≡ Some y) × (y.kind ≡ x.kind) × (y.source ≡ x.source) × ((m.what ≡ Prop) ⊎ (y.properties ≡ x.properties)))
      → ((q : Path) → is_some (u q) ≡ is_some (t q))
      → KeepsContent base u after
  changed_content what file out changed dom = record {
    same = λ p n e del. elim (cases_Bool (same_path p m.path)) [
      | inr other ↦ left_alone p n e del (out p other)
      | inl here ↦ at_path p n e del (same_path-is p m.path here)
    ];
    files = still_files file;
    again = λ p h some.
        let f = found (λ v. covers v p) (made marks) (keeps.again p (gone_back p (λ e w. not_gone e) h) (sym (dom p) ∙ some)) in
        found_in (λ v. covers v p) (made after) f.0 (subst (λ v. In v f.0) (sym at) f.1) f.2;
  }
    where
      not_gone : m.what ≡ Gone → ⊥
      not_gone e = elim what [ inl w ↦ gone_text (sym e ∙ w) | inr w ↦ gone_prop (sym e ∙ w) ]

      at : made after ≡ made marks
      at = made_push [] marks m ∙ elim what [ inl w ↦ ap (λ k. made_after (made marks) k m.path) w | inr w ↦ ap (λ k. made_after (made marks) k m.path) w ]

      at_path : (p : Path) (n : Node) → base p ≡ Some n → (effects after p).deleted ≡ false → p ≡ m.path → (x : Node) × (u p ≡ Some x) × IsKept (effects after p) n x
      at_path p n e del here =
          let k = keeps.same p n e (deleted_was p del) in
          let y = changed k.0 (subst (λ v. t v ≡ Some k.0) here k.1) in (
            y.0,
            subst (λ v. u v ≡ Some y.0) (sym here) y.1,
            record {
              kind = y.2 ∙ k.2.kind;
              source = y.3 ∙ k.2.source;
              properties = λ h. elim y.4 [
                | inr same ↦ same ∙ k.2.properties (false_from_ne_true _ (λ w. both_ways _ h (props_stay p w)))
                | inl prop ↦
                    let outermost : any_covers (made marks) m.path ≡ false = subst (λ v. any_covers (made marks) v ≡ false) here (not_made p n e (deleted_was p del)) in
                    let sets : changes_props m.what m.path p ≡ true = subst (λ v. changes_props m.what m.path v ≡ true) (sym here) (sets_props m.what m.path m.path prop (covers-refl m.path) (covers-refl m.path)) in
                    absurd (both_ways _ h (found_in (λ x. changes_props x.what x.path p) (outer after) m (new_outer base t u marks m cb ct is outermost) sets))
              ];
            },
          )
