-- The first largest distance: what holds of it after so many figures, and with one more.
use Prim.Native.Nat.{ℕ, zero, suc, ◌+◌, ◌≤◌, ◌<◌}
use mathlib.Core.Path.{◌≡◌, refl, sym, ◌∙◌}
use mathlib.Core.Bool.{Bool, true, false}
use mathlib.Core.Logic.{◌⊎◌, inl, inr}
use mathlib.Core.List.{List}
use Rattle.std.specs.Prelude.{Option, Some, None}
use native.Mathlib.Omega.{arith}
use borrow.Author.Tests.{ltb-true, ltb-false}
use lib.Dec.{ltb}
use Rattle.bits.specs.Choice.{pick}
use Rattle.files_formats.specs.Rows.{result_figure, result_figures}
use Rattle.files_differences.specs.declared.told.Figure.{Figure}
use Rattle.files_differences.specs.declared.told.Figure.TheVariants as figure
use Rattle.files_differences.specs.declared.told.Largest.{Largest}
use Rattle.files_differences.specs.Told.{at, first_larger, largest_with}
use Rattle.files_compare.specs.Compare.{figure_at, row_at, largest_in_row, largest_of}
use Rattle.files_compare.specs.ComparePromise.{Earlier, FirstLargest, LargestIsFirst}

-- ---- Figures in their order.
in_front : (k j row n : ℕ) → Earlier k j row n → Earlier k j row (suc n)
in_front k j row n (inl l) = inl l
in_front k j row n (inr p) = inr (p.0, omega (arith, p.1))

last_or_before : (k j row n : ℕ) → Earlier k j row (suc n) → Earlier k j row n ⊎ ((k ≡ row) × (j ≡ n))
last_or_before k j row n (inl l) = inl (inl l)
last_or_before k j row n (inr p) = by (ltb j n) refl
  where
    by : (b : Bool) → ltb j n ≡ b → Earlier k j row n ⊎ ((k ≡ row) × (j ≡ n))
    by true e = inl (inr (p.0, ltb-true j n e))
    by false e = inr (p.0, omega (arith, p.1, ltb-false j n e))

-- The end of a row is the beginning of the next.
next_row : (k j row : ℕ) → Earlier k j row result_figures → Earlier k j (suc row) 0
next_row k j row (inl l) = inl (omega (arith, l))
next_row k j row (inr p) = inl (omega (arith, p.0))

row_before : (k j row : ℕ) → j < result_figures → Earlier k j (suc row) 0 → Earlier k j row result_figures
row_before k j row h (inl l) = by (ltb k row) refl
  where
    by : (b : Bool) → ltb k row ≡ b → Earlier k j row result_figures
    by true e = inl (ltb-true k row e)
    by false e = inr (omega (arith, l, ltb-false k row e), h)
row_before k j row h (inr p) = absurd (omega (arith, p.1))

module _ (left right : List ℕ) where
  abbrev Has : (k j d : ℕ) → Type 0
  Has k j d = figure_at left right k j ≡ figure.Distance d

  -- A figure has one distance.
  same_distance : (k j d e : ℕ) → Has k j d → Has k j e → d ≡ e
  same_distance k j d e p q = let same : figure.Distance d ≡ figure.Distance e = sym p ∙ q in cc

  -- What is the first largest before one figure is so before a later one, where none up to there is larger.
  further : (row n row' n' : ℕ) (l : Largest) → ((k j : ℕ) → Earlier k j row n → Earlier k j row' n') → FirstLargest left right row n (Some l) →
      ((k j e : ℕ) → j < result_figures → Earlier k j row' n' → Has k j e → e ≤ l.distance) → FirstLargest left right row' n' (Some l)
  further row n row' n' l on f none = (
    f.0,
    (
      f.1.0,
      record {
        there = on l.row f.0 f.1.1.there;
        a_figure = f.1.1.a_figure;
        is_its = f.1.1.is_its;
        none_larger = none;
        all_smaller = f.1.1.all_smaller;
      },
    ),
  )

  module _ (row n : ℕ) (here : n < result_figures) where
    -- What holds of every distance before figure n, and of its own, holds of every one before the next figure.
    and_its : (P : ℕ → Type 0) → ((k j e : ℕ) → j < result_figures → Earlier k j row n → Has k j e → P e) → ((e : ℕ) → Has row n e → P e) →
        (k j e : ℕ) → j < result_figures → Earlier k j row (suc n) → Has k j e → P e
    and_its P before its k j e h earlier q = by (last_or_before k j row n earlier)
      where
        by : Earlier k j row n ⊎ ((k ≡ row) × (j ≡ n)) → P e
        by (inl b) = before k j e h b q
        by (inr p) = its e (sym (λ i. figure_at left right (p.0 i) (p.1 i)) ∙ q)

    -- What was the first largest stays so where the next figure has no larger distance.
    kept : (l : Largest) → FirstLargest left right row n (Some l) → ((e : ℕ) → Has row n e → e ≤ l.distance) → FirstLargest left right row (suc n) (Some l)
    kept l f no-larger = further row n row (suc n) l (λ k j b. in_front k j row n b) f (and_its (λ e. e ≤ l.distance) f.1.1.none_larger no-larger)

    -- A figure without a distance changes nothing.
    stays : (l : Option Largest) → ((d : ℕ) → Has row n d → ⊥) → FirstLargest left right row n l → FirstLargest left right row (suc n) l
    stays None none f = and_its (λ e. ⊥) f none
    stays (Some l) none f = kept l f (λ e q. absurd (none e q))

    -- A distance: it takes the place where all before it are smaller; the first of all, or larger than those before it, or not.
    module _ (d : ℕ) (its : Has row n d) where
      taken : ((k j e : ℕ) → j < result_figures → Earlier k j row n → Has k j e → e < d) → FirstLargest left right row (suc n) (Some (at row (result_figure + n) d))
      taken smaller = (
        n,
        (
          refl,
          record {
            there = inr (refl, omega arith);
            a_figure = here;
            is_its = its;
            none_larger =
                and_its (λ e. e ≤ d) (λ k j e h before q. omega (arith, smaller k j e h before q)) (λ e q. omega (arith, same_distance row n d e its q));
            all_smaller = smaller;
          },
        ),
      )

      module _ (l : Largest) (f : FirstLargest left right row n (Some l)) where
        by_size : (b : Bool) → ltb l.distance d ≡ b → FirstLargest left right row (suc n) (pick b (Some (at row (result_figure + n) d)) (Some l))
        by_size true t = taken (λ k j e h before q. omega (arith, ltb-true l.distance d t, f.1.1.none_larger k j e h before q))
        by_size false t = kept l f (λ e q. omega (arith, ltb-false l.distance d t, same_distance row n d e its q))

      with_distance : (l : Option Largest) → FirstLargest left right row n l → FirstLargest left right row (suc n) (first_larger l row (result_figure + n) d)
      with_distance None f = taken (λ k j e h before q. absurd (f k j e h before q))
      with_distance (Some l) f = by_size l f (ltb l.distance d) refl

    no_distance : {f : Figure} → figure_at left right row n ≡ f → ((d : ℕ) → f ≡ figure.Distance d → ⊥) → (d : ℕ) → Has row n d → ⊥
    no_distance e none d q = none d (sym e ∙ q)

    one_more : (l : Option Largest) → FirstLargest left right row n l → FirstLargest left right row (suc n) (largest_with l row (result_figure + n) (figure_at left right row n))
    one_more l f = by (figure_at left right row n) refl
      where
        by : (g : Figure) → figure_at left right row n ≡ g → FirstLargest left right row (suc n) (largest_with l row (result_figure + n) g)
        by (figure.Distance d) e = with_distance d e l f
        by figure.EqualBits e = stays l (no_distance e (λ d q. let z : ◌≡◌ {A = ℕ} 0 1 = cc in omega arith)) f
        by figure.UnequalBits e = stays l (no_distance e (λ d q. let z : ◌≡◌ {A = ℕ} 0 1 = cc in omega arith)) f
        by figure.Untold e = stays l (no_distance e (λ d q. let z : ◌≡◌ {A = ℕ} 0 1 = cc in omega arith)) f

  -- ---- The figures of a row, then the rows.
  in_row : (row n : ℕ) → n ≤ result_figures → (l : Option Largest) → FirstLargest left right row 0 l → FirstLargest left right row n (largest_in_row (row_at left row) (row_at right row) l row n)
  unfolding largest_in_row
  in_row row zero h l f = f
  in_row row (suc n) h l f = one_more row n (omega arith) (largest_in_row (row_at left row) (row_at right row) l row n) (in_row row n (omega arith) l f)

  at_next_row : (row : ℕ) (l : Option Largest) → FirstLargest left right row result_figures l → FirstLargest left right (suc row) 0 l
  at_next_row row None f = λ k j e h before q. f k j e h (row_before k j row h before) q
  at_next_row row (Some l) f =
      further row result_figures (suc row) 0 l (λ k j b. next_row k j row b) f (λ k j e h before q. f.1.1.none_larger k j e h (row_before k j row h before) q)

pub largest_is_first : LargestIsFirst
unfolding largest_of
largest_is_first left right zero = λ k j e h before q. none_yet k j before
  where
    none_yet : (k j : ℕ) → Earlier k j 0 0 → ⊥
    none_yet k j (inl l) = omega (arith, l)
    none_yet k j (inr p) = omega (arith, p.1)
largest_is_first left right (suc row) =
    at_next_row left right row (largest_in_row (row_at left row) (row_at right row) (largest_of left right row) row result_figures)
    (in_row left right row result_figures (omega arith) (largest_of left right row) (largest_is_first left right row))
