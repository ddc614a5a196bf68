-- What is known of a value that a call hands to the reclaimer, and of the blocks that this puts.
--     PutBy code puts pass v vs     v has a kind and a content, as the pass has seen. The blocks vs have the contents that `puts` says of
--                                   this kind and this content, in order, and each of them is of the same kind
use Rattle.std.specs.Prelude.{ℕ, All, List}
use base.Stored.{Gv}
use Rattle.seize_book.specs.declared.book.pass.Pass.{Pass}
use Rattle.seize_parts.specs.Blocks.{HasContent}
use Rattle.seize_parts.specs.Makes.{IsOfKind}
use Rattle.seize_alone.specs.Gone.{AreNamesOf}

pub record PutBy {T : Type 0} (code : T → Gv) (puts : ℕ → T → List T) (pass : Pass) (v : ℕ) (vs : List ℕ) : Type 0 where
  pub kind : ℕ
  pub is_of_kind : IsOfKind v kind pass
  pub value : T
  pub content : HasContent code v value
  pub put : AreNamesOf code vs (puts kind value)
  pub same_kind : All (λ u. IsOfKind u kind pass) vs
