-- A list that several add to, each under a number of its own.
use Rattle.std.specs.Prelude.{◌≡◌, ◌≢◌, ◌<◌, ℕ, suc, List, [], ◌++◌, map, All}
use Rattle.std.specs.Prelude.{true, false}
use mathlib.Core.Option.{some}
use lib.ListN.{get_elem?}
use Rattle.atomic_table.specs.Seated.{TableId}
use Rattle.atomic_table.specs.Table.{Step, Me}
use Rattle.tac_roll.specs.declared.rule.View.{View}

-- which roll
abbrev pub RollId : Type 0
RollId = TableId

-- the name of no roll
abbrev pub no_roll : RollId
no_roll = record {
  words = 0;
  slots = 0;
  views_name = 0;
  atom = 0;
  block = 0;
  offset = 0;
  slot_names = [];
}

-- what the keeper of a roll knows: all items, each with the number of the member for whom it was
-- added, and how many members were admitted
pub record Keeping (E : Type 0) : Type 0 where
  pub roll : RollId
  pub all : List (ℕ × E)
  pub members : ℕ

-- what a member knows: its number, and all items up to its last
pub record Membership (E : Type 0) : Type 0 where
  pub roll : RollId
  pub number : ℕ
  pub seen : List (ℕ × E)

module _ {E : Type 0} where
  -- ---- what a member knows of the whole

  -- none of these was added for the member of this number
  abbrev pub AreOthers : ℕ → List (ℕ × E) → Type 0
  AreOthers number items = All (λ item. item.0 ≢ number) items

  -- what it has seen is a beginning of the whole, and all that was added for it is there
  abbrev pub Knows : List (ℕ × E) → ℕ → List (ℕ × E) → Type 0
  Knows all number seen = (rest : List (ℕ × E)) × (all ≡ seen ++ rest) × AreOthers number rest

  -- each item was added for one of so many members
  abbrev pub AreGiven : ℕ → List (ℕ × E) → Type 0
  AreGiven members items = All (λ item. item.0 < members) items

  -- ---- views, by which the keeper and the members know it

  abbrev pub keeper_of : List (ℕ × E) → ℕ → View E
  keeper_of all members = record {
    is_keeper = true;
    all = all;
    members = members;
    is_member = false;
    number = 0;
    seen = [];
  }

  abbrev pub member_of : ℕ → List (ℕ × E) → View E
  member_of number seen = record {
    is_keeper = false;
    all = [];
    members = 0;
    is_member = true;
    number = number;
    seen = seen;
  }

  abbrev pub nobody : View E
  nobody = record {
    is_keeper = false;
    all = [];
    members = 0;
    is_member = false;
    number = 0;
    seen = [];
  }

  -- ---- how views change

  -- a member is admitted
  abbrev pub with_one_more : View E → View E
  with_one_more view = record view { members = suc view.members }

  abbrev pub newcomer : View E → View E
  newcomer view = member_of view.members view.all

  -- the keeper takes in what a member knows
  abbrev pub both : View E → View E → View E
  both keeper member =
      record keeper { is_member = member.is_member; number = member.number; seen = member.seen }

  -- and gives it back
  abbrev pub keeper_alone : View E → View E
  keeper_alone view = keeper_of view.all view.members

  abbrev pub member_alone : View E → View E
  member_alone view = member_of view.number view.seen

  -- or adds these for it before
  abbrev pub all_after : List E → View E → List (ℕ × E)
  all_after items view = view.all ++ map (λ item. (view.number, item)) items

  abbrev pub kept_after : List E → View E → View E
  kept_after items view = keeper_of (all_after items view) view.members

  abbrev pub member_after : List E → View E → View E
  member_after items view = member_of view.number (all_after items view)

  -- ---- the rule

  -- only one is the keeper, and knows the whole
  abbrev pub Keeps : ℕ → List (ℕ × E) → ℕ → ℕ → View E → Type 0
  Keeps keeper all members at view =
      view.is_keeper ≡ true → (at ≡ keeper) × (view.all ≡ all) × (view.members ≡ members)

  -- a member has one of the numbers that were given
  abbrev pub Belongs : List (ℕ × E) → ℕ → View E → Type 0
  Belongs all members view =
      view.is_member ≡ true → (view.number < members) × Knows all view.number view.seen

  -- these are the views of those who share a roll: no two members have one number
  pub record IsKept (views : List (View E)) : Type 0 where
    pub keeper : ℕ
    pub all : List (ℕ × E)
    pub members : ℕ
    pub given : AreGiven members all
    pub keeps : (at : ℕ) (view : View E) → get_elem? views at ≡ some view
        → Keeps keeper all members at view
    pub belong : (at : ℕ) (view : View E) → get_elem? views at ≡ some view
        → Belongs all members view
    pub apart : (one two : ℕ) (first second : View E) → get_elem? views one ≡ some first
        → get_elem? views two ≡ some second → first.is_member ≡ true → second.is_member ≡ true
        → first.number ≡ second.number → one ≡ two

  -- the keeper compares: it is told whose numbers its items have, and that a member
  -- which it took in knows what a member has to know
  abbrev pub Compares : Step (Unit {0}) → Me (Unit {0}) (View E) → ℕ → Me (Unit {0}) (View E)
      → Type 0
  Compares step before found after =
      (after ≡ before)
      × (before.0.is_keeper ≡ true → AreGiven before.0.members before.0.all)
      × (before.0.is_keeper ≡ true → before.0.is_member ≡ true
      → Knows before.0.all before.0.number before.0.seen)
