-- When a set of placed operations leaves no room for a valid order, as rules 6 and 7 show it. A ranking stands for the places in an order.
--
--   RankedRows rows pos   == what a row has is ranked below the row's own number
--   Below set y pos       == the numbers of a set are ranked below y; Parted: below the numbers of another; Leads x: x is, below those
--   Sixth set S pos       == the numbers of a set but S are ranked below S
--   Settling set S L pos == rules 6 and 7 for a load L, its source S and the other writers that a set has
--   Obeys placed S L z pos == what a ranking owes to a load L, its source S and another writer z: the placed below the others, rules 6 and 7
--   Ranking               == the same for all such writers of all loads below n that have a source
--   Grown O a b           == the rows b rank nothing that a did not, in rankings with O
--   Partly before a b     == the rows b have what a has, some of `before` and no more
--   Unranked rows         == no ranking has the rows
--   Falls .. x y          == none has x below y
--   RankedApart n writers pos == two writers of one address are not ranked alike
--   Refuted ..            == there is no ranking at all
use Rattle.std.specs.Prelude.{◌≡◌, ◌≢◌, ◌⊎◌, false, List, ℕ, ◌<◌, length, get_or}
use Rattle.std.proofs.Math.Bool.{So}
use Rattle.trace.specs.Bounds.{RECORDS}
use Rattle.rows.specs.Rows.{bit}

abbrev pub RankedRows : List ℕ → (ℕ → ℕ) → Type 0
RankedRows rows pos = (x y : ℕ) → So (bit rows y x) → pos x < pos y

abbrev pub Below : List ℕ → ℕ → (ℕ → ℕ) → Type 0
Below set y pos = (x : ℕ) → So (bit set 0 x) → pos x < pos y

abbrev pub Parted : List ℕ → List ℕ → (ℕ → ℕ) → Type 0
Parted ahead heads pos = (y : ℕ) → So (bit heads 0 y) → Below ahead y pos

abbrev pub Leads : ℕ → List ℕ → (ℕ → ℕ) → Type 0
Leads x heads pos = (y : ℕ) → So (bit heads 0 y) → pos x < pos y

abbrev pub Sixth : List ℕ → ℕ → (ℕ → ℕ) → Type 0
Sixth set S pos = (z : ℕ) → So (bit set 0 z) → z ≢ S → pos z < pos S

abbrev pub Settling : List ℕ → ℕ → ℕ → (ℕ → ℕ) → Type 0
Settling set S L pos = (z : ℕ) → So (bit set 0 z) → z ≢ S → (pos z < pos L → pos z < pos S) × (pos S < pos z → pos L < pos z)

pub record Obeys (placed : List ℕ) (S L z : ℕ) (pos : ℕ → ℕ) : Type 0 where
  pub split : So (bit placed 0 S) → bit placed 0 z ≡ false → pos S < pos z
  pub sixth : pos z < pos L → pos z < pos S
  pub seventh : pos S < pos z → pos L < pos z

abbrev pub Ranking : ℕ → List ℕ → List ℕ → List ℕ → (ℕ → ℕ) → Type 0
Ranking n writers sources placed pos = (L : ℕ) → L < n → get_or sources L 0 < RECORDS → (z : ℕ) → So (bit writers L z) → z ≢ get_or sources L 0 → Obeys placed (get_or sources L 0) L z pos

pub record Grown (O : (ℕ → ℕ) → Type 0) (a b : List ℕ) : Type 0 where
  pub long : length b ≡ length a
  pub ranks : (pos : ℕ → ℕ) → O pos → RankedRows a pos → RankedRows b pos

pub record Partly (before a b : List ℕ) : Type 0 where
  pub long : length b ≡ length a
  pub pairs : (x y : ℕ) → So (bit b x y) → So (bit a x y) ⊎ So (bit before x y)

abbrev pub Unranked : List ℕ → Type 0
Unranked rows = (pos : ℕ → ℕ) → RankedRows rows pos → ⊥

abbrev pub Falls : ℕ → List ℕ → List ℕ → List ℕ → List ℕ → ℕ → ℕ → Type 0
Falls n rows writers sources placed x y = (pos : ℕ → ℕ) → Ranking n writers sources placed pos → RankedRows rows pos → pos x < pos y → ⊥

abbrev pub RankedApart : ℕ → List ℕ → (ℕ → ℕ) → Type 0
RankedApart n writers pos = (x y : ℕ) → y < n → So (bit writers y x) → pos x ≡ pos y → ⊥

abbrev pub Refuted : ℕ → List ℕ → List ℕ → List ℕ → List ℕ → Type 0
Refuted n before writers sources placed = (pos : ℕ → ℕ) → RankedApart n writers pos → Ranking n writers sources placed pos → RankedRows before pos → ⊥
