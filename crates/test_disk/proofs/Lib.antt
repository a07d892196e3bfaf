mod FirstEntries
