-- What may be lent: anything that may be owned, shown for a time, and had back. The steps of a content's stages are the same for all of it.
--     Goods           things of one kind in one place: what their owner has of one (own), what each of those to whom it is lent has (shr),
--                     its code, and the lifetimes within which it may be lent
--     Lendable G      what is lent can be had by as many as want it, and what is owned can be lent within those lifetimes
use seplogic.Ra.Ura.{Ura}
use base.Stored.{Gv}
use base.Fml.{Lft, Incl, Fml}
use types.Logic.{Logic}
use denote.Sharing.{ShrLaws}
use denote.Struct.Lending.{Lends}

pub record Goods : Type 1 where
  pub Thing : Type 0
  pub own : Thing → Fml
  pub shr : Thing → Lft → Fml
  pub code : Thing → Gv
  pub lives : Lft

pub record Lendable (G : Goods) : Type 2 where
  pub shr_laws : (x : G.Thing) → ShrLaws (G.shr x)
  pub lends : {M : Type 1} {𝓤 : Ura M} (𝓛 : Logic 𝓤) (x : G.Thing) (l : Lft) → Incl l G.lives → Lends 𝓛 (G.own x) (G.shr x) l
