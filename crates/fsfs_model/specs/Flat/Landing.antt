-- A transaction landed on a head, and where the two clash. (svn_fs.h, svn_fs_merge; the rules are this project's profile.)
use Rattle.std.specs.Prelude.{◌≡◌, ℕ, Bool, true, false, ◌&&◌, ◌||◌, not, nat_lt, nat_le, List, [], ◌∷◌, Option, Some, None, is_some, if◌then◌else◌}
use Rattle.std.specs.declared.cmp.Ordering.TheVariants.{Less}
use Rattle.fsfs_model.specs.Flat.Edits.{is_dir}
use Rattle.fsfs_base.specs.Paths.{Path, path_cmp}
use Rattle.fsfs_tree.specs.Nodes.{Node, TreeFunction}
use Rattle.fsfs_model.specs.declared.flat.mark.Mark.{Mark}
use Rattle.fsfs_model.specs.declared.flat.mark.Effects.{Effects}
use Rattle.fsfs_model.specs.Flat.Marks.{effects}

-- the transaction kept what the base has at the path
abbrev pub held_by_own : Effects → Option Node → Bool
held_by_own d a = is_some a && not d.deleted

-- the head's side
abbrev pub touched_by_head : ℕ → Option Node → Bool
touched_by_head base None = true
touched_by_head base (Some s) = nat_lt base s.last_changed

abbrev pub held_by_head : ℕ → Option Node → Bool
held_by_head base None = false
held_by_head base (Some s) = nat_le s.added base

abbrev pub props_changed_by_head : ℕ → Option Node → Bool
props_changed_by_head base None = false
props_changed_by_head base (Some s) = nat_lt base s.props_changed

-- which of the three nodes comes into the new tree
abbrev pub chosen : Effects → Option Node → Option Node → Option Node → Option Node
chosen d a s t = if held_by_own d a && not d.rewritten then s else (if is_some a || is_some t then t else s)

-- the numbers of that node, in revision n
abbrev pub numbered : ℕ → Effects → Bool → Option Node → Node → Node
numbered n d true s node = record node { added = n; props_changed = n; last_changed = n }
numbered n d false None node = record node { added = n; props_changed = n; last_changed = n }
numbered n d false (Some s) node = record node { added = s.added; props_changed = if d.props_changed then n else s.props_changed; last_changed = if d.touched then n else s.last_changed }

abbrev pub numbered_some : ℕ → Effects → Bool → Option Node → Option Node → Option Node
numbered_some n d own s None = None
numbered_some n d own s (Some node) = Some (numbered n d own s node)

-- what stands at a path after the landing: d is what the marks say of it, a, s and t stand there in the base, the head and the transaction's tree
abbrev pub landed_at : ℕ → Effects → Option Node → Option Node → Option Node → Option Node
landed_at n d a s t = numbered_some n d (is_some t && not (held_by_own d a)) s (chosen d a s t)

abbrev pub land : TreeFunction → TreeFunction → TreeFunction → List Mark → ℕ → TreeFunction
land a s t marks n p = landed_at n (effects marks p) (a p) (s p) (t p)

-- both sides hold the path, so the walk goes on below it
abbrev pub goes_on : ℕ → Effects → Option Node → Option Node → Bool
goes_on base d a s = held_by_own d a && held_by_head base s

-- the two clash at a path that the walk comes to
abbrev pub clashes_at : ℕ → Effects → Option Node → Option Node → Option Node → Bool
clashes_at base d None s t = is_some s && is_some t
clashes_at base d (Some a) s t =
    d.touched && touched_by_head base s
    && (not (is_dir a.kind) || not (goes_on base d (Some a) s) || d.props_changed || props_changed_by_head base s)

-- every path above p goes on
abbrev pub reached : (Path → Bool) → Path → Bool
reached go [] = true
reached go (x ∷ p) = go [] && reached (λ q. go (x ∷ q)) p

abbrev pub is_clash : ℕ → TreeFunction → TreeFunction → TreeFunction → List Mark → Path → Bool
is_clash base a s t marks p =
    reached (λ q. goes_on base (effects marks q) (a q) (s q)) p && clashes_at base (effects marks p) (a p) (s p) (t p)

-- no path clashes
abbrev pub NoClash : ℕ → TreeFunction → TreeFunction → TreeFunction → List Mark → Type 0
NoClash base a s t marks = (p : Path) → is_clash base a s t marks p ≡ false

-- the least path that clashes
pub record IsFirstClash (base : ℕ) (a s t : TreeFunction) (marks : List Mark) (p : Path) : Type 0 where
  pub clashes : is_clash base a s t marks p ≡ true
  pub least : (q : Path) → path_cmp q p ≡ Less → is_clash base a s t marks q ≡ false
