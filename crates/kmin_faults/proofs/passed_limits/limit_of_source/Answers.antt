use Rattle.kmin_faults.proofs.SourceCounts.{limit_counted}
use Rattle.kmin_faults.proofs.passed_limits.limit_of_source.Goals as goal

pub returns : goal.returns
returns c =
    limit_counted c.in_ok-listing.listing _ c.in_ok-listing.ensures _ c.deref.ensures.value c.count_of_sources-count.result c.count_of_sources-count.ensures _
    c.limit_of_count.ensures
