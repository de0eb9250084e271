-- What a contract sees of a node.
use Rattle.fsfs_tree.specs.declared.node.Text.{Text}
use Rattle.fsfs_tree.specs.declared.node.Text.TheVariants.{Bytes as TextBytes, Closed as TextClosed}
use Rattle.fsfs_tree.specs.declared.node.Node.TheInside.{Inside}
use Rattle.fsfs_tree.specs.Nodes.{Node, Content, Bytes, Closed}

abbrev pub content_of : Text → Content
content_of (TextBytes bytes) = Bytes bytes.items
content_of (TextClosed rev offset) = Closed rev offset

abbrev pub node_of : Inside → Node
node_of a = record {
  kind = a.kind;
  text = content_of a.text;
  properties = a.properties;
  source = a.source;
  added = a.added;
  props_changed = a.props_changed;
  last_changed = a.last_changed;
}
