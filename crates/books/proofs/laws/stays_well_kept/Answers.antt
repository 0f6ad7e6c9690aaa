-- What a filing of a new key and a release keep, part by part.
use Rattle.books.specs.Books.{filed_only, released_only}
use Rattle.books.proofs.Books.{filed_within, freed_within}
use Rattle.books.proofs.Orders.{grants_settle}
use Rattle.books.proofs.Keys.{filed_apart, freed_apart}
use Rattle.books.proofs.laws.stays_well_kept.Goals as goal

pub returns-clause-files : goal.returns-clause-files
returns-clause-files c limits rs lock key rank kept new = record {
  settled = grants_settle limits (filed_only lock key rank rs);
  within = filed_within limits lock key rank rs kept.within;
  apart = filed_apart limits lock key rank rs kept.apart new;
}

pub returns-clause-frees : goal.returns-clause-frees
returns-clause-frees c limits rs key kept = record {
  settled = grants_settle limits (released_only key rs);
  within = freed_within limits key rs kept.within;
  apart = freed_apart limits key rs kept.apart;
}
