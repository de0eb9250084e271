-- Three directories, by their node-revisions.
use Rattle.std.proofs.Common.{◌≡◌, ℕ, Bool, true, false, ◌&&◌, Option, Some, None, refl, sym, ap}
use Rattle.std.specs.Prelude.{if◌then◌else◌, nat_le, not}
use Rattle.std.proofs.lemmas.Bool.{and_parts}
use Rattle.fsfs_base.specs.declared.kind.Kind.TheVariants.{Dir}
use Rattle.fsfs_model.specs.Flat.Edits.{is_dir}
use Rattle.fsfs_noderev.specs.declared.node_rev.NodeRev.{NodeRev}
use Rattle.fsfs_revision.specs.Shows.Chains.{copy_root_of}
use Rattle.fsfs_dag.specs.Same.{same_part}
use Rattle.fsfs_draft.specs.OwnSides.{is_own_copy}
use Rattle.fsfs_draft.proofs.OwnEntries.{is_dir_kind}
use Rattle.fsfs_merge.specs.declared.clash.turn.Dirs.{Dirs}
use Rattle.fsfs_merge.specs.Clash.Dirs.{dirs_in}
use Rattle.fsfs_merge.specs.Clash.Sights.{go_on, have_same_props, go_on_in, same_props_in}
use Rattle.fsfs_merge.specs.Clash.Threes.{three_of}

pub record AreDirs (x y v : Option NodeRev) (d : Dirs) : Type 0 where
  pub base : NodeRev
  pub head : NodeRev
  pub own : NodeRev
  pub base_is : x ≡ Some base
  pub head_is : y ≡ Some head
  pub own_is : v ≡ Some own
  pub base_dir : base.kind ≡ Dir
  pub head_dir : head.kind ≡ Dir
  pub own_dir : own.kind ≡ Dir
  pub base_id : d.base ≡ base.id
  pub head_id : d.head ≡ head.id
  pub own_id : d.own ≡ own.id

pub are_dirs : (x y v : Option NodeRev) (d : Dirs) → dirs_in (three_of x y v) ≡ Some d → AreDirs x y v d
are_dirs None y v d h = absurd (let g : None ≡ Some d = h in cc)
are_dirs (Some a) None v d h = absurd (let g : None ≡ Some d = h in cc)
are_dirs (Some a) (Some c) None d h = absurd (let g : None ≡ Some d = h in cc)
are_dirs (Some a) (Some c) (Some e) d h = by (is_dir a.kind && is_dir c.kind && is_dir e.kind) refl h
  where
    all : Dirs
    all = record { base = a.id; head = c.id; own = e.id }

    by : (b : Bool) → (is_dir a.kind && is_dir c.kind && is_dir e.kind) ≡ b → (if b then Some all else None) ≡ Some d → AreDirs (Some a) (Some c) (Some e) d
    by false f g = absurd (let k : None ≡ Some d = g in cc)
    by true f g =
        let same : all ≡ d = (let k = g in cc) in
        let two = and_parts (is_dir a.kind && is_dir c.kind) (is_dir e.kind) f in
        let one = and_parts (is_dir a.kind) (is_dir c.kind) two.0 in
        record {
          base = a;
          head = c;
          own = e;
          base_is = refl;
          head_is = refl;
          own_is = refl;
          base_dir = is_dir_kind a.kind one.0;
          head_dir = is_dir_kind c.kind one.1;
          own_dir = is_dir_kind e.kind two.1;
          base_id = sym (ap (λ (k : Dirs). k.base) same);
          head_id = sym (ap (λ (k : Dirs). k.head) same);
          own_id = sym (ap (λ (k : Dirs). k.own) same);
        }

-- where one of the three is no directory, nothing goes on
pub no_dirs : (n : ℕ) (x y v : Option NodeRev) → dirs_in (three_of x y v) ≡ None → (go_on_in n x y v && same_props_in x y v) ≡ false
no_dirs n None y v h = refl
no_dirs n (Some a) None v h = refl
no_dirs n (Some a) (Some c) None h = refl
no_dirs n (Some a) (Some c) (Some e) h = by (is_dir a.kind && is_dir c.kind && is_dir e.kind) refl h
  where
    all : Dirs
    all = record { base = a.id; head = c.id; own = e.id }

    by : (b : Bool) → (is_dir a.kind && is_dir c.kind && is_dir e.kind) ≡ b → (if b then Some all else None) ≡ None → (go_on n a c e && have_same_props a c e) ≡ false
    by true f g = absurd (let k : Some all ≡ None = g in cc)
    by false f g =
        ap (λ (z : Bool). (z && same_part a.id.node c.id.node && same_part a.id.node e.id.node && nat_le (copy_root_of c).0 n && not (is_own_copy e)) && have_same_props a c e) f
