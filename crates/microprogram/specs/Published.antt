-- The numbers of the published control store: what the listing puts at each address.
use Rattle.std.specs.Prelude.{ℕ, List, map}
use Rattle.std.specs.List.{range_with_len}
use Rattle.microprogram.specs.Listing.{listing}
use Rattle.microprogram.specs.Listing.Labels.{address}
use Rattle.microprogram.specs.Listing.Lines.{listed_number}

-- The 512 numbers of the published control store, by address: the word of the line that lies there, and 0 at an unused address.
unfoldable pub published : List ℕ
unfolding listed_number address listing
published = map (listed_number address listing) (range_with_len 0 512)
