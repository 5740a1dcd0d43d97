-- The contracts of `board`'s sixteen IPs.
-- Assumes nothing.
use Rattle.std.specs.Prelude.{if◌then◌else◌, ◌-◌, ◌&&◌, leb, get_or, set, replicate, None}
use Rattle.board.specs.Favourites.{shared_out, reported_ip, ips_within}
use Rattle.board.proofs.favourites.Favourites as Favourites
use Rattle.promises.specs.Contracts.Says.{Says}

pub record FavouritesContracts : Type 0 where
  pub favourites_none_is :
      Says Favourites.none.Kinds.ps Favourites.none.Kinds.r Favourites.none.Reads.Pre Favourites.none.Reads.Post
      (λ κs _. record { slots = replicate 16 None })
  -- IPs are numbered from 1 to 16; any other number has none.
  pub ip_at_is :
      Says Favourites.ip_at.Kinds.ps Favourites.ip_at.Kinds.r Favourites.ip_at.Reads.Pre Favourites.ip_at.Reads.Post
      (λ κs (favourites, (index, _)).
      if leb 1 index.0 && leb index.0 16
      then get_or favourites.slots (index.0 - 1) None
      else None)
  pub with_ip_is :
      Says Favourites.with_ip.Kinds.ps Favourites.with_ip.Kinds.r
      Favourites.with_ip.Reads.Pre Favourites.with_ip.Reads.Post
      (λ κs (favourites, (index, (ip, _))).
      if leb 1 index.0 && leb index.0 16
      then record { slots = set favourites.slots (index.0 - 1) ip }
      else favourites)
  pub shared_out_is :
      Says Favourites.shared_out.Kinds.ps Favourites.shared_out.Kinds.r
      Favourites.shared_out.Reads.Pre Favourites.shared_out.Reads.Post
      (λ κs (n, (travel, _)). shared_out n travel)
  pub reported_ip_is :
      Says Favourites.reported_ip.Kinds.ps Favourites.reported_ip.Kinds.r
      Favourites.reported_ip.Reads.Pre Favourites.reported_ip.Reads.Post
      (λ κs (favourites, (position, _)). reported_ip favourites position)
  -- What row 33 asks.
  pub favourites_within_is :
      Says Favourites.within.Kinds.ps Favourites.within.Kinds.r Favourites.within.Reads.Pre Favourites.within.Reads.Post
      (λ κs (favourites, (travel, _)). ips_within travel favourites.slots)
