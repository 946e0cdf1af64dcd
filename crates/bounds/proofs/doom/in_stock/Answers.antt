use Rattle.std.proofs.Common.{◌+◌, ◌-◌, ◌∙◌, ap₂, rules, arith}
use Rattle.bounds.specs.Inner.Doom.{lent_stock, stock}
use Rattle.card.proofs.CardChecked.{sound_front}
use Rattle.bounds.proofs.doom.in_stock.Goals as goal

pub byte-t-requires : goal.byte-t-requires
byte-t-requires c = let f = sound_front c.args.card.now c.requires.sound in search rules

pub byte-requires : goal.byte-requires
byte-requires c = let f = sound_front c.args.card.now c.requires.sound in search rules

pub lent_stock-requires : goal.lent_stock-requires
lent_stock-requires c =
    let f = sound_front c.args.card.now c.requires.sound in
    let w = c.requires.counted in
    let e = c.byte-t.ensures.0 in
    let g = c.byte.ensures.0 in record {
      room = (omega arith, (omega arith, w.1.1));
      stores = (c.requires.stores.cells, record { cells = λ k h. c.requires.stores.filed.cells k (omega arith) });
    }

pub returns : goal.returns
unfolding stock
returns c =
    let t = c.byte-t.ensures.0 in
    let a = ap₂ ◌+◌ c.byte.ensures.0 t in
    ap₂ ◌+◌ c.line_stock.ensures.0
    (c.lent_stock.ensures.0
    ∙ ap₂ (λ x y. lent_stock c.args.names.now c.args.nodes.now c.args.s x y c.args.c (c.args.count - y)) t a)
